-- What the places of staged code are, and what they tell, whatever is loaded.
use Rattle.std.specs.Prelude.{◌≡◌, ℕ, ◌<◌, ℤ, false, List, length, None}
use Rattle.mp5_words.specs.Domain.{Loads}
use Rattle.code_forms.specs.Staged.{Staged, Member, group_at}
use Rattle.code_forms.specs.StagedMeaning.{place, code_values, is_touching}
use Rattle.index_resolve.specs.HeaderRun.{flat_place}

-- the places of a header are those of the definition
abbrev pub HasPlaces : Staged → Type 0
HasPlaces c = (header : List ℤ) → length header ≡ c.fields → (g : ℕ) → g < length c.groups
    → place c header g ≡ flat_place c.fields c.arrays c.instrs header (group_at c g).sharded (group_at c g).arrays

-- whatever is loaded, a header without a place at a group touches no array of it
abbrev pub NoneTouched : Staged → Type 0
NoneTouched c = (loads : Loads) (header : List ℤ) → length header ≡ c.fields → (g a : ℕ) → g < length c.groups
    → place c header g ≡ None → Member a (group_at c g).arrays → is_touching c (code_values c loads header) a ≡ false
