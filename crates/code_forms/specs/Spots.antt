-- A table of where the arrays of staged code stand, so that nothing is searched when it runs.
use Rattle.std.specs.Prelude.{◌≡◌, ℕ, ◌+◌, ◌<◌, ◌≤◌, ◌==◌, ℤ, pos, Bool, true, false, slice_set, if◌then◌else◌, List, [], length, Option, Some, None}
use Rattle.std.specs.List.{slice_index_or}
use Rattle.code_forms.specs.declared.flat.Operand.{Operand}
use Rattle.code_forms.specs.declared.flat.Operand.TheVariants as operand
use Rattle.code_forms.specs.declared.flat.Instr.{Instr}
use Rattle.code_forms.specs.declared.flat.Instr.TheVariants as instr
use Rattle.code_forms.specs.declared.flat.FlatArray.{FlatArray}
use Rattle.code_forms.specs.declared.parts.HeaderStep.{HeaderStep}
use Rattle.code_forms.specs.declared.parts.StagedGroup.{StagedGroup}
use Rattle.code_forms.specs.declared.spot.Spot.{Spot}
use Rattle.code_forms.specs.FlatMeaning.{instr_value, flat_length}
use Rattle.code_forms.specs.Staged.{Staged, slot_of_index, no_group, group_from, share, cells_before, stored_operand, operand_word, guards_of}
use Rattle.code_forms.specs.StagedMeaning.{is_open}
use Rattle.mp5_words.specs.Domain.{words}
use Rattle.mp5_words.specs.Cells.{word_at, natural}

-- where an array stands that isn't there
abbrev pub no_spot : Spot
no_spot = record { length = 1; index = 0; start = 0; sharded = false; stored = operand.Number (pos 0) }

-- where an array stands by the table
abbrev pub spot_at : List Spot → ℕ → Spot
spot_at spots a = slice_index_or spots a no_spot

-- which cell of a unit is the array's at an index
abbrev pub cell_in : Spot → ℕ → ℕ
cell_in s index = s.start + (if s.sharded then 0 else index)

-- and where its Index stands in its slot
abbrev pub spot_cell : Spot → List ℤ → ℕ
spot_cell s env = cell_in s (natural (word_at env s.index))

-- the word that an instruction gives on words in slots and the cells of a unit
abbrev pub spot_value : List Spot → List ℤ → List ℤ → Instr → ℤ
spot_value spots cells env i =
    instr_value ℤ (words (λ a. (spot_at spots a).length) (λ a index. word_at cells (cell_in (spot_at spots a) index)))
    (λ a. (spot_at spots a).index) env i

-- each array has from 1 to 65,536 cells
abbrev pub AreLengths : List Spot → Type 0
AreLengths spots = (a : ℕ) → (1 ≤ (spot_at spots a).length) × ((spot_at spots a).length ≤ 65536)

-- a group by its number, where there is one
abbrev pub group_or_none : List StagedGroup → Option ℕ → StagedGroup
group_or_none groups None = no_group
group_or_none groups (Some g) = slice_index_or groups g no_group

-- the group of an array, or none
abbrev pub home_in : List StagedGroup → ℕ → StagedGroup
home_in groups a = group_or_none groups (group_from groups 0 a)

-- of staged code
abbrev pub home : Staged → ℕ → StagedGroup
home c a = home_in c.groups a

-- where an array of the code stands
abbrev pub spot_of : Staged → ℕ → Spot
spot_of c a = record {
  length = flat_length c.arrays a;
  index = slot_of_index c a;
  start = cells_before (share c (home c a)) (home c a).arrays a;
  sharded = (home c a).sharded;
  stored = stored_operand c.instrs a;
}

-- the table has where each array stands
pub record AreSpots (c : Staged) (spots : List Spot) : Type 0 where
  pub long : length spots ≡ length c.arrays
  pub each : (a : ℕ) → a < length c.arrays → spot_at spots a ≡ spot_of c a

-- an array's cell of a unit after its Store
abbrev pub spot_store : List Spot → List ℤ → List ℤ → ℕ → List ℤ
spot_store spots env cells a = slice_set cells (spot_cell (spot_at spots a) env) (operand_word env (spot_at spots a).stored)

-- an array is marked where some guard of it isn't 0
abbrev pub mark_open : List FlatArray → List ℤ → List Bool → ℕ → List Bool
mark_open arrays env marks a = if is_open env (guards_of arrays a) then slice_set marks a true else marks

-- a step of the header run writes its word to its slot
abbrev pub spot_step : List Spot → List ℤ → HeaderStep → List ℤ
spot_step spots room s = slice_set room s.slot (spot_value spots [] room s.instr)

-- ---- how the table is made

-- whether an instruction is the array's Index
abbrev pub is_index : Instr → ℕ → Bool
is_index (instr.Index a x) array = a == array
is_index (instr.One op a) array = false
is_index (instr.Two op a b) array = false
is_index (instr.Pick c a b) array = false
is_index (instr.Hash kind a b c) array = false
is_index (instr.Move a) array = false
is_index (instr.Yes guard c) array = false
is_index (instr.No guard c) array = false
is_index (instr.Load a) array = false
is_index (instr.Store a x) array = false

-- what an instruction writes, if it is the array's Store
abbrev pub store_of : Instr → ℕ → Option Operand
store_of (instr.Store a x) array = if a == array then Some x else None
store_of (instr.Index a x) array = None
store_of (instr.One op a) array = None
store_of (instr.Two op a b) array = None
store_of (instr.Pick c a b) array = None
store_of (instr.Hash kind a b c) array = None
store_of (instr.Move a) array = None
store_of (instr.Yes guard c) array = None
store_of (instr.No guard c) array = None
store_of (instr.Load a) array = None

-- each of these arrays has at most 65,536 cells
abbrev pub AreFew : List FlatArray → Type 0
AreFew arrays = (a : ℕ) → flat_length arrays a ≤ 65536

-- how many cells of an array a unit has: one, or all
abbrev pub shares : List FlatArray → Bool → ℕ → ℕ
shares arrays sharded a = if sharded then 1 else flat_length arrays a

-- how many cells stand before an array's in a unit of such a group
abbrev pub start_in : List FlatArray → StagedGroup → ℕ → ℕ
start_in arrays g a = cells_before (shares arrays g.sharded) g.arrays a

-- each of these groups has at most 16 arrays
abbrev pub AreSmall : List StagedGroup → Type 0
AreSmall groups = (g : ℕ) → length (slice_index_or groups g no_group).arrays ≤ 16
