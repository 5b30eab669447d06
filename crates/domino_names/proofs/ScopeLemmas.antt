-- The numbers of fields and arrays are few.
use Rattle.std.proofs.Common.{◌≡◌, ℕ, suc, ◌≤◌, ◌<◌, ◌^◌, Bool, true, false, if◌then◌else◌, List, [], ◌∷◌, length, map, sym, ap, ◌∙◌, arith}
use Rattle.std.specs.Str.{bytes_eq}
use Rattle.std.specs.Option.{unwrap_or}
use Rattle.std.proofs.lemmas.List.{length-map}
use Rattle.domino_tree.specs.Value.{Array, place_of}
use Rattle.domino_names.specs.declared.infos.ArrayInfo.{ArrayInfo}
use Rattle.domino_names.specs.declared.role.Class.TheVariants as class
use Rattle.domino_names.specs.Infos.{array_of}
use Rattle.domino_names.specs.Symbols.{Named, IsScope, symbol_in, field_from, array_from}

place_within : (name : List ℕ) (names : List (List ℕ)) → place_of name names ≤ length names
place_within name [] = omega arith
place_within name (n ∷ names) = by (bytes_eq name n) (place_within name names)
  where
    by : (b : Bool) → place_of name names ≤ length names → (if b then 0 else suc (place_of name names)) ≤ suc (length names)
    by true h = omega arith
    by false h = omega (arith, h)

module _ (ds : List Named) (fields : List (List ℕ)) (infos : List ArrayInfo) (scope : IsScope ds fields infos) (name : List ℕ) where
  pub field_within : (n : ℕ) → n ≡ unwrap_or (field_from (symbol_in class.Fields name ds)) (length fields) → n < 2 ^ 32
  field_within n is = omega (arith, is, scope.stand.fields name, place_within name fields, scope.few_fields)

  pub array_is : unwrap_or (array_from (symbol_in class.Others name ds)) (length infos) ≡ place_of name (map (λ (a : Array). a.name) (map array_of infos))
  array_is = ap (unwrap_or (array_from (symbol_in class.Others name ds))) (sym (length-map infos array_of)) ∙ scope.stand.arrays name

  pub array_within : (n : ℕ) → n ≡ unwrap_or (array_from (symbol_in class.Others name ds)) (length infos) → n < 2 ^ 32
  array_within n is =
      omega (arith, is, array_is, place_within name (map (λ (a : Array). a.name) (map array_of infos)), length-map (map array_of infos) (λ (a : Array). a.name), length-map infos array_of, scope.few_arrays)
