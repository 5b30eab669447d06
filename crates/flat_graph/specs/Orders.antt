-- What the nodes of valid code keep, and what their tables keep.
use Rattle.std.specs.Prelude.{◌≡◌, ℕ, ◌<◌, All, List, [], length, map, Option, Some, None}
use Rattle.std.specs.List.{slice_index_or}
use Rattle.code_forms.specs.declared.flat.FlatArray.{FlatArray}
use Rattle.code_forms.specs.declared.flat.Instr.{Instr}
use Rattle.code_forms.specs.declared.flat.Instr.TheVariants as instr
use Rattle.code_forms.specs.FlatMeaning.{index_slot, copy_in}
use Rattle.code_forms.specs.FlatValid.{instr_at}
use Rattle.dependence.specs.Uses.{Member, Node, node_at}
use Rattle.flat_graph.specs.declared.node.Node.{Node as CodeNode}

-- a node of code as a node
abbrev pub as_node : CodeNode → Node
as_node n = record { array = n.array; uses = n.uses }

-- nodes of code as nodes
abbrev pub as_nodes : List CodeNode → List Node
as_nodes ns = map as_node ns

-- there are at most sixteen arrays; what is used is there; an instruction of no array uses earlier ones
pub record IsOrdered (nodes : List Node) : Type 0 where
  pub arrays : (i a : ℕ) → i < length nodes → (node_at nodes i).array ≡ Some a → a < 16
  pub there : (i j : ℕ) → i < length nodes → Member j (node_at nodes i).uses → j < length nodes
  pub earlier : (i j : ℕ) → i < length nodes → (node_at nodes i).array ≡ None → Member j (node_at nodes i).uses → j < i

-- the array of an Index, a Load or a Store is one of so many
abbrev pub HasArray : ℕ → Instr → Type 0
HasArray arrays (instr.Index array a) = array < arrays
HasArray arrays (instr.Load array) = array < arrays
HasArray arrays (instr.Store array a) = array < arrays
HasArray arrays (instr.One op a) = Unit {0}
HasArray arrays (instr.Two op a b) = Unit {0}
HasArray arrays (instr.Pick c a b) = Unit {0}
HasArray arrays (instr.Hash kind a b c) = Unit {0}
HasArray arrays (instr.Move a) = Unit {0}
HasArray arrays (instr.Yes guard c) = Unit {0}
HasArray arrays (instr.No guard c) = Unit {0}

-- those of all instructions are
abbrev pub HaveArrays : ℕ → List Instr → Type 0
HaveArrays arrays instrs = (i : ℕ) → i < length instrs → HasArray arrays (instr_at instrs i)

-- for each of sixteen arrays its first Index, where the first of these instructions has such a number
abbrev pub ArePlaces : ℕ → List Instr → List ℕ → Type 0
ArePlaces from instrs places = (a : ℕ) → a < 16 → slice_index_or places a 0 ≡ index_slot instrs from a

-- for each of so many instructions the array in whose list it stands, where these are the lists from an array on
abbrev pub AreCopies : ℕ → ℕ → List (List ℕ) → List (Option ℕ) → Type 0
AreCopies count from later copies = (k : ℕ) → k < count → slice_index_or copies k None ≡ copy_in later from k

-- the numbers of the later copies of each array
abbrev pub copies_in : List FlatArray → List (List ℕ)
copies_in arrays = map (λ (f : FlatArray). f.copies) arrays

-- the numbers of each array's later copies are below a number
abbrev pub AreWithin : ℕ → List FlatArray → Type 0
AreWithin count arrays = (a : ℕ) → a < length arrays → All (λ n. n < count) (slice_index_or (copies_in arrays) a [])
