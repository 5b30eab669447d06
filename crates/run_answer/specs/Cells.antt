-- The cells of all arrays, as the units of their groups have them.
use Rattle.std.specs.Prelude.{ℕ, zero, suc, ◌+◌, ◌==◌, ℤ, Bool, if◌then◌else◌, List, [], ◌∷◌, ◌++◌, length, Option, Some, None}
use Rattle.std.specs.List.{list_any}
use Rattle.mp5_words.specs.Cells.{word_at}
use Rattle.code_forms.specs.declared.parts.StagedGroup.{StagedGroup}
use Rattle.code_forms.specs.FlatMeaning.{flat_length}
use Rattle.code_forms.specs.Staged.{Staged, group_at, group_of, unit_cell}
use Rattle.code_forms.specs.StagedMeaning.{Units, start_of}

-- the unit of a group in which an array's cell with an index stands
abbrev pub unit_with : StagedGroup → ℕ → ℕ
unit_with g index = if g.sharded then index else 0

-- the word of an array of a group at an index; of an array of no group the one at the start
abbrev pub word_in : Staged → Units → Option ℕ → ℕ → ℕ → ℤ
word_in c units None a index = start_of c.arrays a
word_in c units (Some g) a index = word_at (units g (unit_with (group_at c g) index)) (unit_cell c (group_at c g) a index)

-- the first words of an array
abbrev pub words_below : Staged → Units → ℕ → ℕ → List ℤ
words_below c units a zero = []
words_below c units a (suc n) = words_below c units a n ++ word_in c units (group_of c a) a n ∷ []

-- the cells of the first arrays, one array after another
abbrev pub cells_below : Staged → Units → ℕ → List ℤ
cells_below c units zero = []
cells_below c units (suc a) = cells_below c units a ++ words_below c units a (flat_length c.arrays a)

-- the cells of all arrays
abbrev pub all_cells : Staged → Units → List ℤ
all_cells c units = cells_below c units (length c.arrays)

-- whether a group has an array
abbrev pub has_array : StagedGroup → ℕ → Bool
has_array g a = list_any (λ b. b == a) g.arrays

-- how many cells the first arrays have
abbrev pub cell_count : Staged → ℕ → ℕ
cell_count c zero = 0
cell_count c (suc a) = cell_count c a + flat_length c.arrays a
