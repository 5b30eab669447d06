-- The depths of codelets, part by part in running order.
use Rattle.std.specs.Prelude.{◌≡◌, ◌≢◌, ℕ, suc, ◌+◌, ◌<◌, ◌≤◌, ◌==◌, ◌⊎◌, nat_lt, List, length, slice_index, Option, Some, None}
use Rattle.code_forms.specs.declared.layout.Spot.{Spot}
use Rattle.code_forms.specs.declared.layout.Spot.TheVariants as spot
use Rattle.dependence.specs.Counts.{how_many}
use Rattle.dependence.specs.Groups.{group_of}
use Rattle.dependence.specs.Reach.{AreClasses}
use Rattle.dependence.specs.Uses.{Member, Node, node_at, Depends}
use Rattle.flat_graph.specs.Layouts.{class_at, spot_at, part_of}
use Rattle.stage_packing.specs.Members.{member_of}

-- the part of the running order in which an instruction stands
abbrev pub part_at : List Spot → ℕ → ℕ
part_at spots i = part_of (spot_at spots i)

-- an instruction uses one of another codelet
abbrev pub UsesOther : List Node → List ℕ → ℕ → ℕ → Type 0
UsesOther nodes classes i j = Member j (node_at nodes i).uses × (class_at classes i ≢ class_at classes j)

-- an instruction is of the group behind that of another
abbrev pub IsNext : List Spot → ℕ → ℕ → Type 0
IsNext spots i j = (g : ℕ) × (spot_at spots i ≡ spot.Group (suc g)) × (spot_at spots j ≡ spot.Group g)

-- an instruction makes its codelet depend on that of another
pub data Needs (nodes : List Node) (classes : List ℕ) (spots : List Spot) (i j : ℕ) : Type 0 where
  using : i < length nodes → j < length nodes → UsesOther nodes classes i j → Needs nodes classes spots i j
  behind : i < length nodes → j < length nodes → IsNext spots i j → Needs nodes classes spots i j

-- the depth of an instruction's codelet
abbrev pub depth_at : List ℕ → List ℕ → ℕ → ℕ
depth_at depths classes i = slice_index depths (class_at classes i)

-- the instruction stands before the place `k` of the part `p`
abbrev pub Done : List Node → List Spot → ℕ → ℕ → ℕ → Type 0
Done nodes spots p k i = (i < length nodes) × ((part_at spots i < p) ⊎ ((part_at spots i ≡ p) × (i < k)))

-- how many instructions stand before the place `k` of the part `p`
abbrev pub seen : List Node → List Spot → ℕ → ℕ → ℕ
seen nodes spots p k = how_many (λ i. nat_lt (part_at spots i) p) (length nodes) + how_many (λ i. part_at spots i == p) k

-- the depths by the instructions before the place `k` of the part `p`
pub record Deep (nodes : List Node) (classes : List ℕ) (spots : List Spot) (p k : ℕ) (depths : List ℕ) : Type 0 where
  pub above : (i j : ℕ) → Done nodes spots p k i → Needs nodes classes spots i j → depth_at depths classes j < depth_at depths classes i
  pub least : (c : ℕ) → (slice_index depths c ≡ 0) ⊎ ((i : ℕ) × (j : ℕ) × Done nodes spots p k i × Needs nodes classes spots i j × (class_at classes i ≡ c) × (slice_index depths c ≡ suc (depth_at depths classes j)))
  pub most : (c : ℕ) → slice_index depths c ≤ seen nodes spots p k
  pub done : (i : ℕ) → Done nodes spots p k i → depth_at depths classes i < seen nodes spots p k

-- the depth of an instruction's codelet where the instruction counts too
pub record IsRaised (nodes : List Node) (classes : List ℕ) (spots : List Spot) (depths : List ℕ) (i d : ℕ) : Type 0 where
  pub own : depth_at depths classes i ≤ d
  pub above : (j : ℕ) → Needs nodes classes spots i j → depth_at depths classes j < d
  pub least : (d ≡ depth_at depths classes i) ⊎ ((j : ℕ) × Needs nodes classes spots i j × (d ≡ suc (depth_at depths classes j)))

-- what holds of the parts in running order: what is needed stands before, a codelet is in one part, and a codelet of
-- more than one instruction is a part whole
pub record InParts (nodes : List Node) (classes : List ℕ) (spots : List Spot) : Type 0 where
  pub before : (i j : ℕ) → Needs nodes classes spots i j → (part_at spots j < part_at spots i) ⊎ ((part_at spots j ≡ part_at spots i) × (j < i))
  pub one_part : (i j : ℕ) → i < length nodes → j < length nodes → class_at classes i ≡ class_at classes j → part_at spots i ≡ part_at spots j
  pub whole : (i j k : ℕ) → i < length nodes → j < length nodes → k < length nodes → class_at classes j ≡ class_at classes i → (j ≡ i → ⊥) → part_at spots k ≡ part_at spots i → class_at classes k ≡ class_at classes i

-- an instruction that stands for an array of the group
abbrev pub IsHead : List (Option ℕ) → List (Option ℕ) → ℕ → ℕ → Type 0
IsHead members of g m = (a : ℕ) × (a < 16) × (member_of members a ≡ Some m) × (group_of of a ≡ Some g)

-- such an instruction; none where there is none
abbrev pub IsHeadOf : List (Option ℕ) → List (Option ℕ) → ℕ → Option ℕ → Type 0
IsHeadOf members of g None = (m : ℕ) → IsHead members of g m → ⊥
IsHeadOf members of g (Some m) = IsHead members of g m

-- one of the group before that of a place; none where there is none
abbrev pub IsPrevious : List (Option ℕ) → List (Option ℕ) → Spot → Option ℕ → Type 0
IsPrevious members of s None = (g m : ℕ) → s ≡ spot.Group (suc g) → IsHead members of g m → ⊥
IsPrevious members of s (Some m) = (g : ℕ) × (s ≡ spot.Group (suc g)) × IsHead members of g m

-- one more than the greatest depth of the other codelets among those used, but no less than the own one
pub record IsOver (classes : List ℕ) (depths : List ℕ) (class : ℕ) (uses : List ℕ) (d : ℕ) : Type 0 where
  pub own : slice_index depths class ≤ d
  pub above : (j : ℕ) → Member j uses → class ≢ class_at classes j → depth_at depths classes j < d
  pub least : (d ≡ slice_index depths class) ⊎ ((j : ℕ) × Member j uses × (class ≢ class_at classes j) × (d ≡ suc (depth_at depths classes j)))

-- what holds of the codelets and places of instructions, in so many parts
pub record Runs (nodes : List Node) (classes : List ℕ) (members of : List (Option ℕ)) (spots : List Spot) (count : ℕ) : Type 0 where
  pub in_parts : InParts nodes classes spots
  pub low : (i : ℕ) → i < length nodes → part_at spots i < count
  pub heads : (g m : ℕ) → IsHead members of g m → (m < length nodes) × (spot_at spots m ≡ spot.Group g)
  pub headed : (i g : ℕ) → i < length nodes → spot_at spots i ≡ spot.Group g → (m : ℕ) × IsHead members of g m
  pub one_codelet : (i j g : ℕ) → i < length nodes → j < length nodes → spot_at spots i ≡ spot.Group g → spot_at spots j ≡ spot.Group g → class_at classes i ≡ class_at classes j

-- the numbers are those of the codelets
abbrev pub AreCodelets : List Node → List ℕ → Type 0
AreCodelets nodes classes = AreClasses (Depends nodes) (length nodes) classes

-- each codelet has a depth
abbrev pub HaveDepths : List ℕ → List ℕ → Type 0
HaveDepths classes depths = (i : ℕ) → i < length classes → class_at classes i < length depths

-- each depth is below a number
abbrev pub AreBelow : ℕ → List ℕ → Type 0
AreBelow n depths = (c : ℕ) → c < length depths → slice_index depths c < n
