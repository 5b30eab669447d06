-- The counts of a program, one after another.
use Rattle.std.proofs.Common.{◌≡◌, ℕ, ◌+◌, ◌<◌, false, List, [], ◌∷◌, ◌++◌, length, get_or, take, map, flat_map, nat_lt, IsTrue, sym, ap, ◌∙◌, true≢false, append_assoc, length-append}
use Rattle.std.proofs.lemmas.List.{flat_map_more, take_more, map-append, length-map}
use Rattle.std.proofs.lemmas.Grind.{flat_map-append}
use Rattle.domino_tree.specs.declared.program.Item.{Item}
use Rattle.domino_tree.specs.declared.program.Program.{Program}
use Rattle.domino_tree.specs.Value.{Defined, Array, Names, item_define, item_array, names_of}
use Rattle.domino_names.specs.declared.fault.What.{What}
use Rattle.domino_names.specs.declared.fault.What.TheVariants as what
use Rattle.domino_names.specs.declared.fault.CheckFault.{CheckFault}
use Rattle.domino_names.specs.declared.fault.CheckFault.TheVariants as fault
use Rattle.domino_names.specs.First.{FirstFault, NoFault}
use Rattle.domino_names.specs.Checks.{limit, count, counted, TooManyAt}
use Rattle.domino_names.proofs.FirstLemmas.{none_at_start, none_with, first_with}

-- ---- lists of lengths

-- the lengths of arrays
abbrev lengths_of : List Array → List ℕ
lengths_of arrays = map (λ (a : Array). a.length) arrays

-- the lengths of the arrays so far, and of one more item
pub lengths_more : (f : Item → List Array) (old out new : List ℕ) (items : List Item) (i : ℕ) (x : Item) → i < length items → x ≡ get_or items i x
    → out ≡ old ++ map (λ (a : Array). a.length) (flat_map f (take i items)) → new ≡ out ++ map (λ (a : Array). a.length) (f x)
    → new ≡ old ++ map (λ (a : Array). a.length) (flat_map f (take (i + 1) items))
lengths_more f old out new items i x within here before after =
    let seam : flat_map f (take i items) ++ f x ≡ flat_map f (take (i + 1) items) =
    flat_map_more f [] (take i items) x
    ∙ ap (flat_map f) (ap (λ (y : Item). take i items ++ y ∷ []) here ∙ sym (take_more items i x within)) in
    after ∙ ap (λ (l : List ℕ). l ++ lengths_of (f x)) before
    ∙ append_assoc old (lengths_of (flat_map f (take i items))) (lengths_of (f x))
    ∙ ap (λ (l : List ℕ). old ++ l) (sym (map-append (λ (a : Array). a.length) (flat_map f (take i items)) (f x)) ∙ ap lengths_of seam)

-- what the items so far and one more item give
pub flat_more : {X : Type 0} (f : Item → List X) (old out new : List X) (items : List Item) (i : ℕ) (x : Item) → i < length items → x ≡ get_or items i x
    → out ≡ old ++ flat_map f (take i items) → new ≡ out ++ f x → new ≡ old ++ flat_map f (take (i + 1) items)
flat_more f old out new items i x within here before after =
    after ∙ ap (λ l. l ++ f x) before
    ∙ flat_map_more f old (take i items) x
    ∙ ap (λ (xs : List Item). old ++ flat_map f xs) (ap (λ (y : Item). take i items ++ y ∷ []) here ∙ sym (take_more items i x within))

-- ---- counts

-- the definitions of a program, counted in its two lists of items
pub defines_counted : (p : Program) (xs ys : List Item) (m n : ℕ) → xs ≡ p.before → ys ≡ p.after
    → m ≡ length (flat_map item_define xs) → n ≡ length (flat_map item_define ys) → m + n ≡ count (names_of p) what.Defines
defines_counted p xs ys m n first second one two =
    (λ i. (one ∙ ap (λ (l : List Item). length (flat_map item_define l)) first) i + (two ∙ ap (λ (l : List Item). length (flat_map item_define l)) second) i)
    ∙ sym (length-append (flat_map item_define p.before) (flat_map item_define p.after))
    ∙ ap length (sym (flat_map-append item_define p.before p.after))

-- the lengths of the arrays of a program, from its two lists of items
pub lengths_counted : (p : Program) (defines : List Defined) → defines ≡ (names_of p).defines → (xs ys : List Item) (start middle end : List ℕ) → xs ≡ p.before → ys ≡ p.after → start ≡ []
    → middle ≡ start ++ map (λ (a : Array). a.length) (flat_map (item_array defines) xs)
    → end ≡ middle ++ map (λ (a : Array). a.length) (flat_map (item_array defines) ys)
    → end ≡ map (λ (a : Array). a.length) (names_of p).arrays
lengths_counted p defines same xs ys start middle end first second none one two =
    let f = item_array defines in
    two
    ∙ (λ i. (one ∙ (λ j. none j ++ lengths_of (flat_map f (first j)))) i ++ lengths_of (flat_map f (second i)))
    ∙ sym (map-append (λ (a : Array). a.length) (flat_map f p.before) (flat_map f p.after))
    ∙ ap lengths_of (sym (flat_map-append f p.before p.after))
    ∙ ap (λ (d : List Defined). lengths_of (flat_map (item_array d) (p.before ++ p.after))) same

pub arrays_counted : (lengths : List ℕ) (arrays : List Array) → lengths ≡ map (λ (a : Array). a.length) arrays → length lengths ≡ length arrays
arrays_counted lengths arrays e = ap length e ∙ length-map arrays (λ (a : Array). a.length)

module _ (names : Names) where
  -- there are no more than there may be
  abbrev Few : What → Type 0
  Few w = nat_lt (limit w) (count names w) ≡ false

  step : (front : List What) (w : What) → NoFault (TooManyAt names) front → Few w → NoFault (TooManyAt names) (front ++ w ∷ [])
  step front w fine few = none_with (TooManyAt names) front w fine (λ g a. true≢false (sym a.0 ∙ few))

  pub few_defines : Few what.Defines → NoFault (TooManyAt names) (what.Defines ∷ [])
  few_defines d = step [] what.Defines (none_at_start (TooManyAt names)) d

  pub few_fields : Few what.Defines → Few what.Fields → NoFault (TooManyAt names) (what.Defines ∷ what.Fields ∷ [])
  few_fields d f = step (what.Defines ∷ []) what.Fields (few_defines d) f

  pub few_arrays : Few what.Defines → Few what.Fields → Few what.Arrays → NoFault (TooManyAt names) (what.Defines ∷ what.Fields ∷ what.Arrays ∷ [])
  few_arrays d f a = step (what.Defines ∷ what.Fields ∷ []) what.Arrays (few_fields d f) a

  pub few_cells : Few what.Defines → Few what.Fields → Few what.Arrays → Few what.Cells → NoFault (TooManyAt names) counted
  few_cells d f a c = step (what.Defines ∷ what.Fields ∷ what.Arrays ∷ []) what.Cells (few_arrays d f a) c

  -- a count that is passed on
  pub few : (w : What) (n : ℕ) → n ≡ count names w → nat_lt (limit w) n ≡ false → nat_lt (limit w) (count names w) ≡ false
  few w n is h = ap (nat_lt (limit w)) (sym is) ∙ h

  pub many : (w : What) (front back : List What) (n : ℕ) (f : CheckFault) → n ≡ count names w → NoFault (TooManyAt names) front
      → IsTrue (nat_lt (limit w) n) × (f ≡ fault.TooMany w n) → FirstFault (TooManyAt names) (front ++ w ∷ back) f
  many w front back n f is fine h =
      first_with (TooManyAt names) front w back f fine
      (ap (nat_lt (limit w)) (sym is) ∙ h.0, h.1 ∙ ap (fault.TooMany w) is)
