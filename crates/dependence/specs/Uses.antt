-- Instructions as a graph: which depends on which.
use Rattle.std.specs.Prelude.{◌≡◌, ℕ, ◌<◌, ◌⊎◌, List, [], ◌∷◌, length, Option, Some, None}
use Rattle.std.specs.List.{slice_index_or}

-- a number stands in the list
abbrev pub Member : ℕ → List ℕ → Type 0
Member x [] = ⊥
Member x (y ∷ ys) = (x ≡ y) ⊎ Member x ys

-- an instruction: the array that it loads, copies or stores, and the instructions that it uses
pub record Node : Type 0 where
  pub array : Option ℕ
  pub uses : List ℕ

-- no instruction
abbrev pub no_node : Node
no_node = record { array = None; uses = [] }

-- an instruction by its number
abbrev pub node_at : List Node → ℕ → Node
node_at nodes i = slice_index_or nodes i no_node

-- one instruction depends on another: it uses it, or both are of one array
pub data Depends (nodes : List Node) (i j : ℕ) : Type 0 where
  using : i < length nodes → Member j (node_at nodes i).uses → Depends nodes i j
  shared : {a : ℕ} → i < length nodes → j < length nodes → (node_at nodes i).array ≡ Some a → (node_at nodes j).array ≡ Some a → Depends nodes i j
