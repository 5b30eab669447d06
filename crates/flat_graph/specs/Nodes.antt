-- Flat code as a graph of instructions.
use Rattle.std.specs.Prelude.{ℕ, ◌-◌, if◌then◌else◌, nat_lt, List, [], ◌∷◌, ◌++◌, map, flat_map, Option, Some}
use Rattle.std.specs.List.{slice_index_or}
use Rattle.code_forms.specs.declared.flat.FlatCode.{FlatCode}
use Rattle.code_forms.specs.declared.flat.FlatArray.{FlatArray}
use Rattle.code_forms.specs.declared.flat.Operand.{Operand}
use Rattle.code_forms.specs.declared.flat.Operand.TheVariants as operand
use Rattle.code_forms.specs.declared.flat.Instr.{Instr}
use Rattle.code_forms.specs.declared.flat.Instr.TheVariants as instr
use Rattle.code_forms.specs.FlatMeaning.{Step, index_slot, steps_of}
use Rattle.dependence.specs.Uses.{Node}

-- the instruction that writes the operand's slot; none for a number and for a slot of the header
abbrev pub writer : ℕ → Operand → List ℕ
writer fields (operand.Slot k) = if nat_lt k fields then [] else (k - fields) ∷ []
writer fields (operand.Number n) = []

-- the instructions that write the operands' slots
abbrev pub writers : ℕ → List Operand → List ℕ
writers fields operands = flat_map (writer fields) operands

-- the guards under which an array is touched
abbrev pub guards_of : List FlatArray → ℕ → List Operand
guards_of arrays a = slice_index_or (map (λ (f : FlatArray). f.touched) arrays) a []

-- what an instruction takes: its operands, and for a Store the guards under which its array is touched
abbrev pub taken_by : List FlatArray → Instr → List Operand
taken_by arrays (instr.One op a) = a ∷ []
taken_by arrays (instr.Two op a b) = a ∷ b ∷ []
taken_by arrays (instr.Pick c a b) = c ∷ a ∷ b ∷ []
taken_by arrays (instr.Hash kind a b c) = a ∷ b ∷ c ∷ []
taken_by arrays (instr.Move a) = a ∷ []
taken_by arrays (instr.Yes guard c) = guard ∷ c ∷ []
taken_by arrays (instr.No guard c) = guard ∷ c ∷ []
taken_by arrays (instr.Index array a) = a ∷ []
taken_by arrays (instr.Load array) = []
taken_by arrays (instr.Store array a) = a ∷ guards_of arrays array

-- the Index of the cell that a Load or a Store speaks of
abbrev pub index_used : List Instr → Instr → List ℕ
index_used instrs (instr.Load array) = index_slot instrs 0 array ∷ []
index_used instrs (instr.Store array a) = index_slot instrs 0 array ∷ []
index_used instrs (instr.One op a) = []
index_used instrs (instr.Two op a b) = []
index_used instrs (instr.Pick c a b) = []
index_used instrs (instr.Hash kind a b c) = []
index_used instrs (instr.Move a) = []
index_used instrs (instr.Yes guard c) = []
index_used instrs (instr.No guard c) = []
index_used instrs (instr.Index array a) = []

-- the instructions that an instruction uses: its Index, and those that write what it takes
abbrev pub used_by : ℕ → List FlatArray → List Instr → Instr → List ℕ
used_by fields arrays instrs i = index_used instrs i ++ writers fields (taken_by arrays i)

-- the instructions that an instruction uses in flat code
abbrev pub uses_in : FlatCode → Instr → List ℕ
uses_in c i = used_by c.fields c.arrays c.instrs i

-- the array that an instruction loads or stores, else this one
abbrev pub owner : Instr → Option ℕ → Option ℕ
owner (instr.Load array) copy = Some array
owner (instr.Store array a) copy = Some array
owner (instr.One op a) copy = copy
owner (instr.Two op a b) copy = copy
owner (instr.Pick c a b) copy = copy
owner (instr.Hash kind a b c) copy = copy
owner (instr.Move a) copy = copy
owner (instr.Yes guard c) copy = copy
owner (instr.No guard c) copy = copy
owner (instr.Index array a) copy = copy

-- the array whose copy an instruction loads, makes or stores
abbrev pub array_of : Step → Option ℕ
array_of s = owner s.instr s.copy

-- an instruction as a node
abbrev pub node_of : ℕ → List FlatArray → List Instr → Step → Node
node_of fields arrays instrs s = record { array = array_of s; uses = used_by fields arrays instrs s.instr }

-- an instruction of flat code as a node, where it makes a later copy of this array
abbrev pub node_in : FlatCode → Instr → Option ℕ → Node
node_in c i copy = node_of c.fields c.arrays c.instrs (record { instr = i; copy = copy })

-- the instructions as nodes, in order
abbrev pub nodes_in : ℕ → List FlatArray → List Instr → List Node
nodes_in fields arrays instrs = map (node_of fields arrays instrs) (steps_of arrays instrs)

-- the nodes of flat code
abbrev pub nodes : FlatCode → List Node
nodes c = nodes_in c.fields c.arrays c.instrs
