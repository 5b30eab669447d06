-- What the table of names holds when one more name is declared.
use Rattle.std.proofs.Common.{◌≡◌, ℕ, true, false, cond, ◌&&◌, is_some, is_none, List, [], ◌∷◌, ◌++◌, Option, Some, None, Bor, refl, sym, ap, ◌∙◌, true≢false}
use Rattle.std.specs.Str.{bytes_eq}
use Rattle.std.specs.Map.{lookup}
use Rattle.std.proofs.lemmas.List.{map-append}
use Rattle.std.proofs.lemmas.Slice.Eq.{bytes_eq-Decides}
use Rattle.domino_names.specs.declared.role.Class.{Class}
use Rattle.domino_names.specs.declared.role.Class.TheVariants as class
use Rattle.domino_names.specs.declared.role.Symbol.{Symbol}
use Rattle.domino_names.specs.contracts.role.ClassPartialEq.TheImpl.{ghosts}
use Rattle.domino_names.specs.Declarations.{class_of, is_same_class}
use Rattle.domino_names.specs.Symbols.{kind_of, symbol_in, Entry, named_at, named_in, AreClassed}

-- ---- classes

-- the derived comparison of classes
pub eq_class : (c d : Class) → ghosts.eq c d ≡ is_same_class c d
eq_class class.Fields class.Fields = refl
eq_class class.Fields class.Structs = refl
eq_class class.Fields class.Others = refl
eq_class class.Structs class.Fields = refl
eq_class class.Structs class.Structs = refl
eq_class class.Structs class.Others = refl
eq_class class.Others class.Fields = refl
eq_class class.Others class.Structs = refl
eq_class class.Others class.Others = refl

same_class_refl : (c : Class) → is_same_class c c ≡ true
same_class_refl class.Fields = refl
same_class_refl class.Structs = refl
same_class_refl class.Others = refl

pub same_class_is : (c d : Class) → is_same_class c d ≡ true → c ≡ d
same_class_is class.Fields class.Fields e = refl
same_class_is class.Fields class.Structs e = absurd (true≢false (sym e))
same_class_is class.Fields class.Others e = absurd (true≢false (sym e))
same_class_is class.Structs class.Fields e = absurd (true≢false (sym e))
same_class_is class.Structs class.Structs e = refl
same_class_is class.Structs class.Others e = absurd (true≢false (sym e))
same_class_is class.Others class.Fields e = absurd (true≢false (sym e))
same_class_is class.Others class.Structs e = absurd (true≢false (sym e))
same_class_is class.Others class.Others e = refl

-- a class and a name are themselves
pub key_refl : (c : Class) (name : List ℕ) → (is_same_class c c && bytes_eq name name) ≡ true
key_refl c name = ap (λ b. b && bytes_eq name name) (same_class_refl c) ∙ (bytes_eq-Decides name name).1 refl

-- ---- the table

abbrev key_class : Entry → Class
key_class e = e.0.0

abbrev symbol_class : Entry → Class
symbol_class e = class_of (kind_of e.1)

abbrev first_class : Class → List Class → Class
first_class c [] = c
first_class c (d ∷ ds) = d

abbrev other_classes : List Class → List Class
other_classes [] = []
other_classes (d ∷ ds) = ds

-- what the derived comparison finds is what the name stands for in its class
pub found : (entries : List Entry) → AreClassed entries → (c : Class) (name : List ℕ)
    → lookup {K = Class × Bor (List ℕ)} {X = Symbol} (λ y. ghosts.eq c y.0 && bytes_eq name y.1.now) entries ≡ symbol_in c name (named_in entries)
found [] h c name = refl
found (e ∷ es) h c name =
    let same : ghosts.eq c e.0.0 ≡ is_same_class c (class_of (kind_of e.1)) = eq_class c e.0.0 ∙ ap (λ l. is_same_class c (first_class c l)) h in
    λ i. cond (same i && bytes_eq name e.0.1.now) (Some e.1) (found es (ap other_classes h) c name i)

-- one more name in its class
pub classed_more : (entries : List Entry) (e : Entry) → AreClassed entries → e.0.0 ≡ class_of (kind_of e.1) → AreClassed (entries ++ e ∷ [])
classed_more entries e h same =
    map-append key_class entries (e ∷ [])
    ∙ (λ i. h i ++ same i ∷ [])
    ∙ sym (map-append symbol_class entries (e ∷ []))

pub named_more : (entries : List Entry) (e : Entry) → named_in (entries ++ e ∷ []) ≡ named_in entries ++ named_at e ∷ []
named_more entries e = map-append named_at entries (e ∷ [])

-- what is there is not absent
pub none_of : {X : Type 0} (o : Option X) → is_some o ≡ false → o ≡ None
none_of None e = refl
none_of (Some x) e = absurd (true≢false e)

pub some_of : {X : Type 0} (o : Option X) → is_some o ≡ true → is_none o ≡ false
some_of None e = absurd (true≢false (sym e))
some_of (Some x) e = refl
