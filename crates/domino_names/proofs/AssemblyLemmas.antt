-- The checks of parts of a program, read at the program.
use Rattle.std.proofs.Common.{◌≡◌, ℕ, ◌+◌, ◌<◌, Bool, true, not, is_some, is_none, List, [], ◌∷◌, ◌++◌, length, map, get_or, take, Option, Some, None, refl, sym, ap, subst, ◌∙◌, append_assoc}
use Rattle.std.proofs.lemmas.List.{take_more, take-map}
use Rattle.domino_tree.specs.declared.program.Program.{Program}
use Rattle.domino_names.specs.declared.role.Kind.{Kind}
use Rattle.domino_names.specs.declared.role.Class.{Class}
use Rattle.domino_names.specs.Uses.{Use, uses_of}
use Rattle.domino_names.specs.declared.role.Symbol.{Symbol}
use Rattle.domino_names.specs.Declarations.{Declaration, class_of, kind_in, hash_declarations}
use Rattle.domino_names.specs.Checks.{is_twice, kinds_in}
use Rattle.domino_names.specs.Symbols.{Named, is_new, with_new, kind_of, declaration_of, symbol_in, kind_from, hash_symbols, kinds_at, text_symbols, symbols_of}
use Rattle.domino_names.proofs.OnceLemmas.{kinds_are, declared_are}

-- the table of a program
pub table_is : (table ds : List Named) (p : Program) → ds ≡ text_symbols p → table ≡ hash_symbols ++ ds → table ≡ symbols_of p
table_is table ds p is held = held ∙ ap (λ (l : List Named). hash_symbols ++ l) is

-- it has the kinds of the program's names
pub table_kinds : (table : List Named) (p : Program) → table ≡ symbols_of p → kinds_at table ≡ kinds_in p
table_kinds table p is = λ i c name. (ap (λ l. kinds_at l c name) is ∙ kinds_are c name (symbols_of p) ∙ ap (λ (l : List Declaration). kind_in c name l) (declared_are p)) i

-- what holds at a table and a list of uses holds at the program
pub at_program : (P : (Class → List ℕ → Option Kind) → List Use → Type 0) (p : Program) (kinds : Class → List ℕ → Option Kind) (us : List Use)
    → kinds ≡ kinds_in p → us ≡ uses_of p → P kinds us → P (kinds_in p) (uses_of p)
at_program P p kinds us k u h = subst (P (kinds_in p)) u (subst (λ (x : Class → List ℕ → Option Kind). P x us) k h)

-- ---- one more declaration

is_kind : (o : Option Symbol) → is_some (kind_from o) ≡ not (is_none o)
is_kind None = refl
is_kind (Some s) = refl

-- a name is declared twice where it isn't new in the table
pub twice_is : (table ds : List Named) (i : ℕ) (d : Named) (name : List ℕ) (s : Symbol) (new : Bool) → table ≡ hash_symbols ++ take i ds → name ≡ d.name → s ≡ d.symbol
    → new ≡ is_new name s table → is_twice (take i (map declaration_of ds)) (declaration_of d) ≡ not new
twice_is table ds i d name s new held same_name same_symbol says =
    ap (λ (l : List Declaration). is_some (kind_in (class_of (kind_of d.symbol)) d.name (hash_declarations ++ l))) (take-map declaration_of i ds)
    ∙ ap is_some (sym (kinds_are (class_of (kind_of d.symbol)) d.name (hash_symbols ++ take i ds)))
    ∙ is_kind (symbol_in (class_of (kind_of d.symbol)) d.name (hash_symbols ++ take i ds))
    ∙ ap not (sym (says ∙ (λ j. is_none (symbol_in (class_of (kind_of (same_symbol j))) (same_name j) (held j)))))

-- the declarations so far and one more are held
pub held_more : (old new ds : List Named) (i : ℕ) (d : Named) (name : List ℕ) (s : Symbol) (is_new : Bool) → is_new ≡ true → i < length ds → d ≡ get_or ds i d → old ≡ hash_symbols ++ take i ds → name ≡ d.name → s ≡ d.symbol
    → new ≡ with_new is_new old name s → new ≡ hash_symbols ++ take (i + 1) ds
held_more old new ds i d name s is_new fresh within here held same_name same_symbol is =
    is
    ∙ ap (λ b. with_new b old name s) fresh
    ∙ (λ j. held j ++ record { name = same_name j; symbol = same_symbol j } ∷ [])
    ∙ append_assoc hash_symbols (take i ds) (d ∷ [])
    ∙ ap (λ (l : List Named). hash_symbols ++ l) (ap (λ (y : Named). take i ds ++ y ∷ []) here ∙ sym (take_more ds i d within))
