-- What a header tells of arrays, in rows of sixteen.
use Rattle.std.specs.Prelude.{◌≡◌, ℕ, ◌<◌, Bool, List, map, slice_index, Option}
use Rattle.std.specs.List.{list_any, slice_index_or}
use Rattle.mp5_words.specs.Copies.{Copy}
use Rattle.mp5_words.specs.Domain.{Mark}
use Rattle.dependence.specs.Tables.{has}
use Rattle.domino_names.specs.declared.infos.ArrayInfo.{ArrayInfo}
use Rattle.domino_check.specs.Place.{is_open_at, marked_place}

-- some of these guards is open
abbrev pub opens : List Mark → Bool
opens guards = list_any (λ (m : Mark). m.is_open) guards

-- of each array, whether some site that touches it is open
abbrev pub AreOpen : (ℕ → Option (Copy Mark)) → List Bool → Type 0
AreOpen copy row = (a : ℕ) → a < 16 → has row a ≡ is_open_at (copy a)

-- how many cells the array has that is declared so; 1 past them all
abbrev pub cells_in : List ArrayInfo → ℕ → ℕ
cells_in infos a = slice_index_or (map (λ (i : ArrayInfo). i.length) infos) a 1

-- of each array, the place that its index names, in so many cells
abbrev pub ArePlaces : (ℕ → ℕ) → (ℕ → Option (Copy Mark)) → List ℕ → Type 0
ArePlaces cells copy row = (a : ℕ) → a < 16 → slice_index row a ≡ marked_place (cells a) (copy a)
