-- What staged code means on a header and the units of its groups: the values of its instructions, the places of the
-- header, and what stands in the units and the fields afterwards. It looks at values alone, and at no environment.
use Rattle.std.specs.Prelude.{◌≡◌, ℕ, ◌+◌, ◌<◌, ◌==◌, ℤ, pos, Bool, true, false, if◌then◌else◌, List, ◌++◌, length, map, filter, flat_map, replicate, slice_set, Option, Some, None}
use Rattle.std.specs.List.{fold, list_any, slice_index_or}
use Rattle.code_forms.specs.declared.flat.Operand.{Operand}
use Rattle.code_forms.specs.declared.flat.FlatArray.{FlatArray}
use Rattle.code_forms.specs.declared.parts.HeaderStep.{HeaderStep}
use Rattle.code_forms.specs.declared.parts.StagedGroup.{StagedGroup}
use Rattle.code_forms.specs.declared.unit.Unit.{Unit as PlacedUnit}
use Rattle.code_forms.specs.FlatMeaning.{instr_value, flat_values, flat_length}
use Rattle.code_forms.specs.Staged.{Staged, Member, Fits, slot_of_index, operand_word, guards_of, group_at, group_of, first_array, unit_count, share, unit_cell, stored_operand, group_start}
use Rattle.mp5_words.specs.Domain.{Loads, words}
use Rattle.mp5_words.specs.Words.{truth}
use Rattle.mp5_words.specs.Cells.{word_at, natural, touching, bits}

-- some of these guards isn't 0 on words in slots
abbrev pub is_open : List ℤ → List Operand → Bool
is_open env guards = list_any (λ x. truth (operand_word env x)) guards

-- some guard of the array isn't
abbrev pub is_touching : Staged → List ℤ → ℕ → Bool
is_touching c env a = is_open env (guards_of c.arrays a)

-- ---- the header run

-- nothing is loaded but 0
abbrev pub no_loads : Loads
no_loads a index = pos 0

-- a step writes its instruction's word to its slot
abbrev pub header_step : Staged → List ℤ → HeaderStep → List ℤ
header_step c room s = slice_set room s.slot (instr_value ℤ (words (flat_length c.arrays) no_loads) (slot_of_index c) room s.instr)

-- the words of all slots after the steps, where the header stands in its slots and 0 in all others
abbrev pub header_words : Staged → List ℤ → List ℤ
header_words c header = fold (header_step c) (header ++ replicate (length c.instrs) (pos 0)) c.header

-- the unit of a group: for a sharded one the word of its first array's Index
abbrev pub unit_number : Staged → List ℤ → StagedGroup → ℕ
unit_number c room g = if g.sharded then natural (word_at room (slot_of_index c (first_array g))) else 0

-- the place at a group, where such words are in the slots: its unit, where some guard of some array of it isn't 0
abbrev pub place_on : Staged → List ℤ → StagedGroup → Option ℕ
place_on c room g = if list_any (is_touching c room) g.arrays then Some (unit_number c room g) else None

-- the place of a header at a group
abbrev pub place : Staged → List ℤ → ℕ → Option ℕ
place c header g = place_on c (header_words c header) (group_at c g)

-- a place as a number: 0, or 1 more than the unit
abbrev pub place_code : Option ℕ → ℕ
place_code None = 0
place_code (Some u) = u + 1

-- ---- values

-- the cells of each unit of each group
abbrev pub Units : Type 0
Units = ℕ → ℕ → List ℤ

-- the word of an array of a group at an index, where the header has such a place at the group
abbrev pub placed_word : Staged → Units → ℕ → Option ℕ → ℕ → ℕ → ℤ
placed_word c units g None a index = pos 0
placed_word c units g (Some u) a index = word_at (units g u) (unit_cell c (group_at c g) a index)

-- the word of an array of such a group at an index
abbrev pub loaded_word : Staged → Units → List ℤ → Option ℕ → ℕ → ℕ → ℤ
loaded_word c units header None a index = pos 0
loaded_word c units header (Some g) a index = placed_word c units g (place c header g) a index

-- what is loaded: the cell in the placed unit, or 0 where there is no place
abbrev pub staged_loads : Staged → Units → List ℤ → Loads
staged_loads c units header a index = loaded_word c units header (group_of c a) a index

-- the values of all slots, where such words are loaded
abbrev pub code_values : Staged → Loads → List ℤ → List ℤ
code_values c loads header = flat_values ℤ (words (flat_length c.arrays) loads) c.fields c.arrays c.instrs header

-- the values of all slots
abbrev pub staged_values : Staged → Units → List ℤ → List ℤ
staged_values c units header = code_values c (staged_loads c units header) header

-- ---- results

-- the last value of each field
abbrev pub last_words : Staged → List ℤ → List ℤ
last_words c vals = map (operand_word vals) c.last

-- the array's cell of a unit after its Store
abbrev pub store_cell : Staged → List ℤ → StagedGroup → List ℤ → ℕ → List ℤ
store_cell c vals g cells a =
    slice_set cells (unit_cell c g a (natural (word_at vals (slot_of_index c a)))) (operand_word vals (stored_operand c.instrs a))

-- the cells of a placed unit after the Stores of all arrays of its group
abbrev pub cells_after : Staged → List ℤ → StagedGroup → List ℤ → List ℤ
cells_after c vals g cells = fold (store_cell c vals g) cells g.arrays

-- whether a place is this unit
abbrev pub is_place : Option ℕ → ℕ → Bool
is_place None u = false
is_place (Some v) u = v == u

-- the units afterwards: a placed one after its Stores, all others as they were
abbrev pub units_after : Staged → Units → List ℤ → Units
units_after c units header g u =
    if is_place (place c header g) u then cells_after c (staged_values c units header) (group_at c g) (units g u) else units g u

-- a set of arrays as a number: bit a for array a
abbrev pub array_set : List ℕ → ℕ
array_set arrays = bits (touching arrays (replicate 16 false))

-- the arrays of a group that are touched
abbrev pub touched_in : Staged → List ℤ → ℕ → List ℕ
touched_in c vals g = filter (is_touching c vals) (group_at c g).arrays

-- the start value of an array's cells
abbrev pub start_of : List FlatArray → ℕ → ℤ
start_of arrays a = slice_index_or (map (λ (f : FlatArray). f.start) arrays) a (pos 0)

-- the cells of a unit at the start: for each array of the group its cells, one array after another
abbrev pub start_cells : Staged → StagedGroup → List ℤ
start_cells c g = flat_map (λ a. replicate (share c g a) (start_of c.arrays a)) g.arrays

-- ---- what the type keeps, and what its calls do

-- whatever the header and the units are, a place at a sharded group is the value of the Index of each of its arrays
abbrev pub PlacesAreIndexes : Staged → Type 0
PlacesAreIndexes c = (header : List ℤ) (units : Units) → length header ≡ c.fields → (g u : ℕ) → g < length c.groups
    → (group_at c g).sharded ≡ true → place c header g ≡ Some u → (a : ℕ) → Member a (group_at c g).arrays
    → word_at (staged_values c units header) (slot_of_index c a) ≡ pos u

-- each place of the header is a unit of its group
abbrev pub HasUnits : Staged → List ℤ → Type 0
HasUnits c header = (g u : ℕ) → g < length c.groups → place c header g ≡ Some u → u < unit_count c (group_at c g)

-- such an environment leads from a point to another: on every header and all units for which this holds, if it fits
-- before, it fits after
abbrev pub Leads : Staged → (List ℤ → Units → Type 0) → ℕ → ℕ → List ℤ → List ℤ → Type 0
Leads c Holds from to old new = (header : List ℤ) (units : Units) → length header ≡ c.fields → Holds header units
    → Fits c (staged_values c units header) from old → Fits c (staged_values c units header) to new

-- no matter which header and units
abbrev pub Always : List ℤ → Units → Type 0
Always header units = Unit {0}

-- the header has no place at the group
abbrev pub IsUnplaced : Staged → ℕ → List ℤ → Units → Type 0
IsUnplaced c g header units = place c header g ≡ None

-- the header has a place at the group: this unit, which has these cells
abbrev pub IsPlaced : Staged → ℕ → ℕ → List ℤ → List ℤ → Units → Type 0
IsPlaced c g u cells header units = (place c header g ≡ Some u) × (units g u ≡ cells)

-- these are the cells of a placed unit afterwards, where the environment fitted before
abbrev pub Serves : Staged → ℕ → PlacedUnit → List ℤ → List ℤ → Type 0
Serves c g unit env cells = (header : List ℤ) (units : Units) → length header ≡ c.fields
    → IsPlaced c g unit.number unit.cells header units → Fits c (staged_values c units header) (group_start c g) env
    → cells ≡ units_after c units header g unit.number

-- these are the touched arrays of the group, where the header has its place at that unit and the environment fitted
-- before
abbrev pub Touches : Staged → ℕ → PlacedUnit → List ℤ → ℕ → Type 0
Touches c g unit env set = (header : List ℤ) (units : Units) → length header ≡ c.fields
    → IsPlaced c g unit.number unit.cells header units → Fits c (staged_values c units header) (group_start c g) env
    → set ≡ array_set (touched_in c (staged_values c units header) g)

-- these are the last values of the fields, where the environment fits behind the last block
abbrev pub Finishes : Staged → List ℤ → List ℤ → Type 0
Finishes c env fields = (header : List ℤ) (units : Units) → length header ≡ c.fields
    → Fits c (staged_values c units header) (group_start c (length c.groups)) env
    → fields ≡ last_words c (staged_values c units header)
