-- Which arrays an instruction depends on, directly or through others.
use Rattle.std.specs.Prelude.{◌≡◌, ℕ, ◌<◌, ◌↔◌, true, Bool, List, [], length, Some}
use Rattle.std.specs.List.{slice_index_or}
use Rattle.dependence.specs.Reach.{Reaches}
use Rattle.dependence.specs.Uses.{Node, node_at, Depends}
use Rattle.dependence.specs.Tables.{has}

-- the instruction depends on one of the array's
abbrev pub ReachesArray : List Node → ℕ → ℕ → Type 0
ReachesArray nodes i a = (m : ℕ) × (m < length nodes) × ((node_at nodes m).array ≡ Some a) × Reaches (Depends nodes) i m

-- one of the array's instructions depends on the instruction
abbrev pub ReachedFrom : List Node → ℕ → ℕ → Type 0
ReachedFrom nodes i a = (m : ℕ) × (m < length nodes) × ((node_at nodes m).array ≡ Some a) × Reaches (Depends nodes) m i

-- the marks of an instruction
abbrev pub row : List (List Bool) → ℕ → List Bool
row rows i = slice_index_or rows i []

-- marks for each instruction, one for each of sixteen arrays: what is marked is in the relation
pub record Marks (in_relation : ℕ → ℕ → Type 0) (count : ℕ) (rows : List (List Bool)) : Type 0 where
  pub long : length rows ≡ count
  pub marks : (i a : ℕ) → i < count → a < 16 → (has (row rows i) a ≡ true) ↔ in_relation i a

-- for each instruction sixteen marks, one for each array that may be there: whether the instruction depends on it
abbrev pub MarksReached : List Node → List (List Bool) → Type 0
MarksReached nodes rows = Marks (ReachesArray nodes) (length nodes) rows

-- and whether it depends on the instruction
abbrev pub MarksReachedFrom : List Node → List (List Bool) → Type 0
MarksReachedFrom nodes rows = Marks (ReachedFrom nodes) (length nodes) rows

-- the marks of each instruction, as a value has them
pub record Rows : Type 0 where
  pub rows : List (List Bool)
