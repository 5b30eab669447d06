-- What a walk over the items and the fields of a program has declared, when it has seen one more.
use Rattle.std.proofs.Common.{◌≡◌, ℕ, suc, ◌+◌, ◌<◌, List, [], ◌∷◌, ◌++◌, length, get_or, take, refl, sym, ap, ◌∙◌, append_assoc, arith}
use Rattle.std.proofs.lemmas.List.{take_more, length-take}
use Rattle.domino_tree.specs.declared.program.Item.{Item}
use Rattle.domino_names.specs.declared.role.Symbol.TheVariants as symbol
use Rattle.domino_names.specs.Symbols.{Named, next_array, arrays_after, item_symbol, item_symbols, field_symbols}

-- the items so far and one more
take_one : {A : Type 0} (xs : List A) (i : ℕ) (x : A) → i < length xs → x ≡ get_or xs i x → take i xs ++ x ∷ [] ≡ take (i + 1) xs
take_one {A} xs i x within here = ap (λ (y : A). take i xs ++ y ∷ []) here ∙ sym (take_more xs i x within)

after_more : (n : ℕ) (items : List Item) (x : Item) → arrays_after n (items ++ x ∷ []) ≡ next_array (arrays_after n items) x
after_more n [] x = refl
after_more n (i ∷ items) x = after_more (next_array n i) items x

items_more : (n : ℕ) (items : List Item) (x : Item) → item_symbols n (items ++ x ∷ []) ≡ item_symbols n items ++ item_symbol (arrays_after n items) x ∷ []
items_more n [] x = refl
items_more n (i ∷ items) x = ap (λ (l : List Named). item_symbol n i ∷ l) (items_more (next_array n i) items x)

fields_more : (n : ℕ) (fields : List (List ℕ)) (f : List ℕ) → field_symbols n (fields ++ f ∷ []) ≡ field_symbols n fields ++ record { name = f; symbol = symbol.Field (n + length fields) } ∷ []
fields_more n [] f = ap (λ m. record { name = f; symbol = symbol.Field m } ∷ []) (omega arith)
fields_more n (g ∷ fields) f =
    ap (λ (l : List Named). record { name = g; symbol = symbol.Field n } ∷ l)
    (fields_more (suc n) fields f ∙ ap (λ m. field_symbols (suc n) fields ++ record { name = f; symbol = symbol.Field m } ∷ []) (omega arith))

module _ (n : ℕ) (items : List Item) (i : ℕ) (x : Item) (within : i < length items) (here : x ≡ get_or items i x) where
  pub after_one : (next more : ℕ) → next ≡ arrays_after n (take i items) → more ≡ next_array next x → more ≡ arrays_after n (take (i + 1) items)
  after_one next more is said = said ∙ ap (λ m. next_array m x) is ∙ sym (after_more n (take i items) x) ∙ ap (arrays_after n) (take_one items i x within here)

  pub items_one : (start old new : List Named) (next : ℕ) → old ≡ start ++ item_symbols n (take i items) → next ≡ arrays_after n (take i items) → new ≡ old ++ item_symbol next x ∷ []
      → new ≡ start ++ item_symbols n (take (i + 1) items)
  items_one start old new next is at said =
      said
      ∙ (λ j. is j ++ item_symbol (at j) x ∷ [])
      ∙ append_assoc start (item_symbols n (take i items)) (item_symbol (arrays_after n (take i items)) x ∷ [])
      ∙ ap (λ (l : List Named). start ++ l) (sym (items_more n (take i items) x) ∙ ap (item_symbols n) (take_one items i x within here))

pub fields_one : (fields : List (List ℕ)) (i : ℕ) (f : List ℕ) → i < length fields → f ≡ get_or fields i f → (start old new : List Named)
    → old ≡ start ++ field_symbols 0 (take i fields) → new ≡ old ++ record { name = f; symbol = symbol.Field i } ∷ [] → new ≡ start ++ field_symbols 0 (take (i + 1) fields)
fields_one fields i f within here start old new is said =
    let place : i ≡ 0 + length (take i fields) = omega (arith, length-take i fields, within) in
    said
    ∙ (λ j. is j ++ record { name = f; symbol = symbol.Field (place j) } ∷ [])
    ∙ append_assoc start (field_symbols 0 (take i fields)) (record { name = f; symbol = symbol.Field (0 + length (take i fields)) } ∷ [])
    ∙ ap (λ (l : List Named). start ++ l) (sym (fields_more 0 (take i fields) f) ∙ ap (field_symbols 0) (take_one fields i f within here))
