-- The place of an instruction, by the codelets of arrays and by what it reaches.
use Rattle.std.specs.Prelude.{◌≡◌, ℕ, suc, ◌+◌, ◌<◌, ◌⊎◌, Bool, true, List, Option, Some, None}
use Rattle.code_forms.specs.declared.layout.Spot.{Spot}
use Rattle.code_forms.specs.declared.layout.Spot.TheVariants as spot
use Rattle.dependence.specs.Tables.{has}
use Rattle.dependence.specs.Groups.{group_of}
use Rattle.flat_graph.specs.ReachedArrays.{row}
use Rattle.flat_graph.specs.Layouts.{class_at}
use Rattle.stage_packing.specs.Members.{member_of}

-- the array's instruction is of the codelet, and the array of the group
abbrev pub IsOf : List ℕ → List (Option ℕ) → List (Option ℕ) → ℕ → ℕ → ℕ → Type 0
IsOf classes members of class a g = (m : ℕ) × (member_of members a ≡ Some m) × (class_at classes m ≡ class) × (group_of of a ≡ Some g)

-- the group of a codelet; none where no array's instruction is of it
abbrev pub IsGroupOf : List ℕ → List (Option ℕ) → List (Option ℕ) → ℕ → Option ℕ → Type 0
IsGroupOf classes members of class None = (a g : ℕ) → a < 16 → IsOf classes members of class a g → ⊥
IsGroupOf classes members of class (Some g) = (a : ℕ) × (a < 16) × IsOf classes members of class a g

-- the instruction reaches an array of the group
abbrev pub Sees : List (List Bool) → List (Option ℕ) → ℕ → ℕ → ℕ → Type 0
Sees rows of i a g = (a < 16) × (has (row rows i) a ≡ true) × (group_of of a ≡ Some g)

-- 0 where the instruction reaches no group, else 1 more than the greatest
pub record IsBlockBy (rows : List (List Bool)) (of : List (Option ℕ)) (i b : ℕ) : Type 0 where
  pub above : (a g : ℕ) → Sees rows of i a g → g < b
  pub least : (b ≡ 0) ⊎ ((a : ℕ) × (g : ℕ) × (b ≡ suc g) × Sees rows of i a g)

-- the group of the instruction's codelet, or else its block
abbrev pub IsSpotBy : List ℕ → List (Option ℕ) → List (List Bool) → List (Option ℕ) → ℕ → Spot → Type 0
IsSpotBy classes members rows of i (spot.Group g) = IsGroupOf classes members of (class_at classes i) (Some g)
IsSpotBy classes members rows of i (spot.Block b) = IsGroupOf classes members of (class_at classes i) None × IsBlockBy rows of i b

-- the block behind a group; block 0 behind none
abbrev pub block_behind : Option ℕ → ℕ
block_behind None = 0
block_behind (Some g) = g + 1
