-- When a layout is that of code: its groups, the place of each instruction, the depth of each codelet, the stages.
use Rattle.std.specs.Prelude.{◌≡◌, ◌≢◌, ℕ, suc, ◌+◌, ◌<◌, ◌==◌, ◌⊎◌, Bool, false, List, length, map, slice_index, Option, Some, None}
use Rattle.std.specs.List.{slice_index_or}
use Rattle.mp5_words.specs.Cells.{bits}
use Rattle.code_forms.specs.declared.flat.FlatCode.{FlatCode}
use Rattle.code_forms.specs.declared.layout.Layout.{Layout}
use Rattle.code_forms.specs.declared.layout.Spot.{Spot}
use Rattle.code_forms.specs.declared.layout.Spot.TheVariants as spot
use Rattle.dependence.specs.Reach.{Mutual}
use Rattle.dependence.specs.Uses.{Member, Node, node_at, Depends}
use Rattle.dependence.specs.Groups.{AreGroups, group_of}
use Rattle.dependence.specs.Paths.{IsDepth}
use Rattle.flat_graph.specs.Nodes.{nodes}
use Rattle.flat_graph.specs.ReachedArrays.{ReachesArray}

-- ---- groups

-- an array is touched: some instruction loads it
abbrev pub IsTouched : List Node → ℕ → Type 0
IsTouched nodes a = (m : ℕ) × (m < length nodes) × ((node_at nodes m).array ≡ Some a)

-- an instruction of one array depends on one of another, directly or through others
abbrev pub ArrayReaches : List Node → ℕ → ℕ → Type 0
ArrayReaches nodes a b = (i : ℕ) × (i < length nodes) × ((node_at nodes i).array ≡ Some a) × ReachesArray nodes i b

-- whether an array is of the group
abbrev pub is_of : ℕ → Option ℕ → Bool
is_of g None = false
is_of g (Some h) = g == h

-- the sets of arrays are those of the groups
abbrev pub AreSets : List (Option ℕ) → List ℕ → Type 0
AreSets of sets = (g : ℕ) → g < length sets → slice_index sets g ≡ bits (map (is_of g) of)

-- ---- the place of an instruction

-- the instruction stands in the codelet of the group: it and the Load of one of the group's arrays reach each other
abbrev pub InGroup : List Node → List (Option ℕ) → ℕ → ℕ → Type 0
InGroup nodes of i g = (a : ℕ) × (m : ℕ) × (m < length nodes) × ((node_at nodes m).array ≡ Some a) × (group_of of a ≡ Some g) × Mutual (Depends nodes) i m

-- the instruction depends on the group, directly or through others
abbrev pub ReachesGroup : List Node → List (Option ℕ) → ℕ → ℕ → Type 0
ReachesGroup nodes of i g = (a : ℕ) × (group_of of a ≡ Some g) × ReachesArray nodes i a

-- the block is 0 where the instruction depends on no group, else 1 more than the greatest number of one
pub record IsBlock (nodes : List Node) (of : List (Option ℕ)) (i b : ℕ) : Type 0 where
  pub outside : (g : ℕ) → InGroup nodes of i g → ⊥
  pub above : (g : ℕ) → ReachesGroup nodes of i g → g < b
  pub least : (b ≡ 0) ⊎ ((g : ℕ) × (b ≡ suc g) × ReachesGroup nodes of i g)

-- the place of an instruction: its group, or else its block
abbrev pub IsSpot : List Node → List (Option ℕ) → ℕ → Spot → Type 0
IsSpot nodes of i (spot.Group g) = InGroup nodes of i g
IsSpot nodes of i (spot.Block b) = IsBlock nodes of i b

abbrev pub spot_at : List Spot → ℕ → Spot
spot_at spots i = slice_index_or spots i (spot.Block 0)

-- the part of the running order in which a place is: block 0, group 0, block 1, group 1 and so on
abbrev pub part_of : Spot → ℕ
part_of (spot.Block b) = b + b
part_of (spot.Group g) = suc (g + g)

-- an instruction runs behind those that it uses: they are in an earlier part, or in its own. In its own they come first
-- by number, but where it loads, copies or stores an array: then they may be guards under which the array is touched
abbrev pub RunsBehind : List Node → List Spot → Type 0
RunsBehind nodes spots = (i j : ℕ) → i < length nodes → Member j (node_at nodes i).uses
    → (part_of (spot_at spots j) < part_of (spot_at spots i)) ⊎ ((part_of (spot_at spots j) ≡ part_of (spot_at spots i)) × ((node_at nodes i).array ≡ None → j < i))

-- ---- codelets and their depth

-- the number of an instruction's codelet
abbrev pub class_at : List ℕ → ℕ → ℕ
class_at classes i = slice_index classes i

-- the codelet has an instruction in the group
abbrev pub IsOfGroup : List ℕ → List Spot → ℕ → ℕ → Type 0
IsOfGroup classes spots c g = (i : ℕ) × (i < length classes) × (class_at classes i ≡ c) × (spot_at spots i ≡ spot.Group g)

-- a codelet depends on another: an instruction of it depends on one of the other, or it is the next group behind it
pub data CodeletOn (nodes : List Node) (classes : List ℕ) (spots : List Spot) (c d : ℕ) : Type 0 where
  using : (i j : ℕ) → i < length nodes → j < length nodes → class_at classes i ≡ c → class_at classes j ≡ d → c ≢ d → Depends nodes i j → CodeletOn nodes classes spots c d
  chained : (g : ℕ) → IsOfGroup classes spots c (suc g) → IsOfGroup classes spots d g → CodeletOn nodes classes spots c d

-- there is a codelet of this number
abbrev pub IsCodelet : List ℕ → ℕ → Type 0
IsCodelet classes c = (i : ℕ) × (i < length classes) × (class_at classes i ≡ c)

-- one depth for each codelet, that of the longest path from it on
pub record AreDepths (nodes : List Node) (classes : List ℕ) (spots : List Spot) (depths : List ℕ) : Type 0 where
  pub all : (c : ℕ) → IsCodelet classes c → c < length depths
  pub used : (c : ℕ) → c < length depths → IsCodelet classes c
  pub longest : (c : ℕ) → c < length depths → IsDepth (CodeletOn nodes classes spots) c (slice_index depths c)

-- no stage where there is no depth, else 1 more than the greatest
pub record AreStages (depths : List ℕ) (stages : ℕ) : Type 0 where
  pub above : (c : ℕ) → c < length depths → slice_index depths c < stages
  pub least : (stages ≡ 0) ⊎ ((c : ℕ) × (c < length depths) × (stages ≡ suc (slice_index depths c)))

-- ---- all of it

-- the layout of instructions whose codelets have these numbers. Sixteen arrays have groups; those that aren't there have none
pub record IsLayoutOf (nodes : List Node) (classes : List ℕ) (spots : List Spot) (depths : List ℕ) (sets : List ℕ) (stages : ℕ) : Type 0 where
  pub of : List (Option ℕ)
  pub wide : length of ≡ 16
  pub groups : AreGroups (IsTouched nodes) (ArrayReaches nodes) (length sets) of
  pub sets_are : AreSets of sets
  pub long : length spots ≡ length nodes
  pub placed : (i : ℕ) → i < length nodes → IsSpot nodes of i (spot_at spots i)
  pub depths_are : AreDepths nodes classes spots depths
  pub stages_are : AreStages depths stages

-- the same for flat code
abbrev pub IsLayout : FlatCode → List ℕ → Layout → Type 0
IsLayout code classes l = IsLayoutOf (nodes code) classes l.spot l.depth l.arrays l.stages
