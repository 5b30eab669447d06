-- Staged code as plain data: the order of its instructions, its parts, and its groups of arrays; which slots hold which
-- values at which point; and when the data is valid.
use Rattle.std.specs.Prelude.{◌≡◌, ℕ, suc, ◌+◌, ◌*◌, ◌<◌, ◌≤◌, ◌==◌, ◌⊎◌, ℤ, pos, true, false, if◌then◌else◌, List, [], ◌∷◌, ◌++◌, length, slice_index, map, flat_map, All, Option, Some, None}
use Rattle.std.specs.List.{list_any, slice_index_or}
use Rattle.code_forms.specs.declared.flat.Operand.{Operand}
use Rattle.code_forms.specs.declared.flat.Operand.TheVariants as operand
use Rattle.code_forms.specs.declared.flat.Instr.{Instr}
use Rattle.code_forms.specs.declared.flat.Instr.TheVariants as instr
use Rattle.code_forms.specs.declared.flat.FlatArray.{FlatArray}
use Rattle.code_forms.specs.declared.flat.FlatCode.{FlatCode}
use Rattle.code_forms.specs.declared.parts.HeaderStep.{HeaderStep}
use Rattle.code_forms.specs.declared.parts.StagedGroup.{StagedGroup}
use Rattle.code_forms.specs.declared.parts.StagedParts.{StagedParts}
use Rattle.code_forms.specs.FlatValid.{is_flat_code, instr_at, ascends}
use Rattle.code_forms.specs.FlatMeaning.{index_slot, flat_length}
use Rattle.mp5_words.specs.Cells.{word_at}

-- flat code, and the parts in which it runs
pub record Staged : Type 0 where
  pub fields : ℕ
  pub arrays : List FlatArray
  pub instrs : List Instr
  pub last : List Operand
  pub order : List ℕ
  pub ends : List ℕ
  pub groups : List StagedGroup
  pub header : List HeaderStep
  pub stages : ℕ

-- instructions, arrays and last values in these parts
abbrev pub staged_of : ℕ → List FlatArray → List Instr → List Operand → StagedParts → Staged
staged_of fields arrays instrs last parts = record {
  fields = fields;
  arrays = arrays;
  instrs = instrs;
  last = last;
  order = parts.order;
  ends = parts.ends;
  groups = parts.groups;
  header = parts.header;
  stages = parts.stages;
}

-- flat code in these parts
abbrev pub in_parts : FlatCode → StagedParts → Staged
in_parts code parts = staged_of code.fields code.arrays code.instrs code.last parts

-- a number stands in the list
abbrev pub Member : ℕ → List ℕ → Type 0
Member x [] = ⊥
Member x (y ∷ ys) = (x ≡ y) ⊎ Member x ys

-- ---- slots

-- how many slots there are: one for each field of the header, and one for each instruction
abbrev pub slot_count : Staged → ℕ
slot_count c = c.fields + length c.instrs

-- the slot of each array's Index
abbrev pub slot_of_index : Staged → ℕ → ℕ
slot_of_index c a = index_slot c.instrs c.fields a

-- what an operand is on words in slots
abbrev pub operand_word : List ℤ → Operand → ℤ
operand_word env (operand.Slot k) = word_at env k
operand_word env (operand.Number n) = n

-- the slot of an operand, if it has one
abbrev pub operand_slots : Operand → List ℕ
operand_slots (operand.Slot k) = k ∷ []
operand_slots (operand.Number n) = []

-- the guards under which an array is touched
abbrev pub guards_of : List FlatArray → ℕ → List Operand
guards_of arrays a = slice_index_or (map (λ (f : FlatArray). f.touched) arrays) a []

-- the slots that an instruction uses. A Load uses its array's Index; a Store uses that too, and the guards under which
-- its array is touched
abbrev pub uses : Staged → Instr → List ℕ
uses c (instr.One op a) = operand_slots a
uses c (instr.Two op a b) = operand_slots a ++ operand_slots b
uses c (instr.Pick x a b) = operand_slots x ++ (operand_slots a ++ operand_slots b)
uses c (instr.Hash kind a b x) = operand_slots a ++ (operand_slots b ++ operand_slots x)
uses c (instr.Move a) = operand_slots a
uses c (instr.Yes guard x) = operand_slots guard ++ operand_slots x
uses c (instr.No guard x) = operand_slots guard ++ operand_slots x
uses c (instr.Index array a) = operand_slots a
uses c (instr.Load array) = slot_of_index c array ∷ []
uses c (instr.Store array a) = operand_slots a ++ (slot_of_index c array ∷ flat_map operand_slots (guards_of c.arrays array))

-- the slots of the fields' last values
abbrev pub last_slots : Staged → List ℕ
last_slots c = flat_map operand_slots c.last

-- ---- the order of running

-- the number of the instruction that runs at a place of the order
abbrev pub number_at : Staged → ℕ → ℕ
number_at c p = slice_index c.order p

-- the instruction that runs there
abbrev pub runs : Staged → ℕ → Instr
runs c p = instr_at c.instrs (number_at c p)

-- the places between the parts: part k runs from place k of these to the next
abbrev pub point : Staged → ℕ → ℕ
point c k = slice_index (0 ∷ c.ends) k

-- the point where a block begins
abbrev pub block_start : Staged → ℕ → ℕ
block_start c b = point c (2 * b)

-- the point behind that block, where the group of the same number begins; behind the last block nothing runs
abbrev pub group_start : Staged → ℕ → ℕ
group_start c g = point c (2 * g + 1)

-- the value of a slot is the header's, or is written before a place of the order
pub data IsWritten (c : Staged) (p v : ℕ) : Type 0 where
  of_header : v < c.fields → IsWritten c p v
  of_instr : (q : ℕ) → q < p → v ≡ c.fields + number_at c q → IsWritten c p v

-- the value of a slot is used at a place of the order or later, or at the end
pub data IsUsed (c : Staged) (p v : ℕ) : Type 0 where
  by_instr : (q : ℕ) → p ≤ q → q < length c.order → Member v (uses c (runs c q)) → IsUsed c p v
  at_end : Member v (last_slots c) → IsUsed c p v

-- an environment has all slots, and each value that is written before a place of the order and used there or later
-- stands in its slot
pub record Fits (c : Staged) (vals : List ℤ) (p : ℕ) (env : List ℤ) : Type 0 where
  pub long : length env ≡ slot_count c
  pub held : (v : ℕ) → IsWritten c p v → IsUsed c p v → word_at env v ≡ word_at vals v

-- ---- groups

-- no group
abbrev pub no_group : StagedGroup
no_group = record { arrays = []; sharded = false; depth = 0 }

-- a group by its number
abbrev pub group_at : Staged → ℕ → StagedGroup
group_at c g = slice_index_or c.groups g no_group

-- the number of the first of these groups that has the array, where the first of them has such a number
abbrev pub group_from : List StagedGroup → ℕ → ℕ → Option ℕ
group_from [] n a = None
group_from (g ∷ groups) n a = if list_any (λ b. b == a) g.arrays then Some n else group_from groups (suc n) a

-- the group of an array
abbrev pub group_of : Staged → ℕ → Option ℕ
group_of c a = group_from c.groups 0 a

-- the first array of a group
abbrev pub first_array : StagedGroup → ℕ
first_array g = slice_index g.arrays 0

-- how many units a group has: one for each index, or one alone
abbrev pub unit_count : Staged → StagedGroup → ℕ
unit_count c g = if g.sharded then flat_length c.arrays (first_array g) else 1

-- each group has from 1 to 65,536 units
abbrev pub HasSizes : Staged → Type 0
HasSizes c = (g : ℕ) → g < length c.groups → (1 ≤ unit_count c (group_at c g)) × (unit_count c (group_at c g) ≤ 65536)

-- how many cells of an array a unit of its group has
abbrev pub share : Staged → StagedGroup → ℕ → ℕ
share c g a = if g.sharded then 1 else flat_length c.arrays a

-- how many cells stand before an array's, where these arrays have such shares, one after another
abbrev pub cells_before : (ℕ → ℕ) → List ℕ → ℕ → ℕ
cells_before shares [] a = 0
cells_before shares (b ∷ arrays) a = if b == a then 0 else shares b + cells_before shares arrays a

-- which cell of a unit is that of an array at an index
abbrev pub unit_cell : Staged → StagedGroup → ℕ → ℕ → ℕ
unit_cell c g a index = cells_before (share c g) g.arrays a + (if g.sharded then 0 else index)

-- ---- what is valid

-- a place of the order is in a part
abbrev pub InPart : Staged → ℕ → ℕ → Type 0
InPart c k p = (point c k ≤ p) × (p < point c (k + 1))

-- the array whose cell an instruction reads or writes
abbrev pub accessed : Instr → Option ℕ
accessed (instr.Load a) = Some a
accessed (instr.Store a x) = Some a
accessed (instr.One op a) = None
accessed (instr.Two op a b) = None
accessed (instr.Pick c a b) = None
accessed (instr.Hash kind a b c) = None
accessed (instr.Move a) = None
accessed (instr.Yes guard c) = None
accessed (instr.No guard c) = None
accessed (instr.Index a x) = None

-- the operand that the array's Store writes
abbrev pub stored_operand : List Instr → ℕ → Operand
stored_operand [] array = operand.Number (pos 0)
stored_operand (instr.Store a x ∷ instrs) array = if a == array then x else stored_operand instrs array
stored_operand (i ∷ instrs) array = stored_operand instrs array

-- the parts end one after another, the last one where all have run; a block before each group, and one behind all
pub record AreParts (c : Staged) : Type 0 where
  pub few : length c.groups ≤ 16
  pub count : length c.ends ≡ 2 * length c.groups + 1
  pub rising : (k : ℕ) → k < length c.ends → point c k ≤ point c (k + 1)
  pub whole : point c (length c.ends) ≡ length c.order

-- what runs is an instruction, and uses what was written before; all last values are written
pub record IsOrder (c : Staged) : Type 0 where
  pub known : (p : ℕ) → p < length c.order → number_at c p < length c.instrs
  pub ordered : (p v : ℕ) → p < length c.order → Member v (uses c (runs c p)) → IsWritten c p v
  pub ended : (v : ℕ) → Member v (last_slots c) → IsWritten c (length c.order) v

-- cells are read and written in the part of their group alone, and there is the Store of each of its arrays
pub record AreAccesses (c : Staged) : Type 0 where
  pub inside : (p a : ℕ) → p < length c.order → accessed (runs c p) ≡ Some a
      → (g : ℕ) × (g < length c.groups) × (group_of c a ≡ Some g) × InPart c (2 * g + 1) p
  pub stored : (g a : ℕ) → g < length c.groups → Member a (group_at c g).arrays
      → (p : ℕ) × InPart c (2 * g + 1) p × (runs c p ≡ instr.Store a (stored_operand c.instrs a))

-- a group has arrays, in order of declaration; each is there and in no other group; the arrays of a sharded group have
-- one length
pub record IsGroup (c : Staged) (g : ℕ) : Type 0 where
  pub some : 0 < length (group_at c g).arrays
  pub rising : ascends 0 (group_at c g).arrays ≡ true
  pub there : (a : ℕ) → Member a (group_at c g).arrays → (a < length c.arrays) × (group_of c a ≡ Some g)
  pub even : (group_at c g).sharded ≡ true → (a : ℕ) → Member a (group_at c g).arrays
      → flat_length c.arrays a ≡ flat_length c.arrays (first_array (group_at c g))

-- the code is valid flat code, and its parts, order, accesses and groups are as they should be
pub record IsStaged (c : Staged) : Type 0 where
  pub code : is_flat_code c.fields c.arrays c.instrs c.last ≡ true
  pub parts : AreParts c
  pub order : IsOrder c
  pub accesses : AreAccesses c
  pub groups : (g : ℕ) → g < length c.groups → IsGroup c g
  pub header : All (λ (s : HeaderStep). s.slot < slot_count c) c.header
