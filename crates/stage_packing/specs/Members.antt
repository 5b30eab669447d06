-- One instruction of each array, and what it reaches.
use Rattle.std.specs.Prelude.{◌≡◌, ℕ, ◌<◌, Bool, false, List, length, Option, Some, None}
use Rattle.std.specs.List.{slice_index_or}
use Rattle.dependence.specs.Tables.{has}
use Rattle.dependence.specs.Uses.{Node, node_at}
use Rattle.flat_graph.specs.ReachedArrays.{row}

-- an instruction of the array among the first so many; none where there is none
abbrev pub IsMember : List Node → ℕ → ℕ → Option ℕ → Type 0
IsMember nodes count a None = (i : ℕ) → i < count → (node_at nodes i).array ≡ Some a → ⊥
IsMember nodes count a (Some m) = (m < count) × ((node_at nodes m).array ≡ Some a)

-- the instruction that stands for an array
abbrev pub member_of : List (Option ℕ) → ℕ → Option ℕ
member_of members a = slice_index_or members a None

-- for each of sixteen arrays an instruction of it
abbrev pub AreMembers : List Node → List (Option ℕ) → Type 0
AreMembers nodes members = (a : ℕ) → a < 16 → IsMember nodes (length nodes) a (member_of members a)

-- whether the instruction, if there is one, reaches the array
abbrev pub reaches : List (List Bool) → Option ℕ → ℕ → Bool
reaches rows None b = false
reaches rows (Some m) b = has (row rows m) b

-- the instructions that stand for arrays are below a number
abbrev pub AreBelow : List (Option ℕ) → ℕ → Type 0
AreBelow members n = (a m : ℕ) → a < 16 → member_of members a ≡ Some m → m < n
