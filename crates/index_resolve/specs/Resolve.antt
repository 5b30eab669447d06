-- What resolved code is: flat code in the parts of its layout.
use Rattle.std.specs.Prelude.{◌≡◌, ℕ, ◌+◌, ◌*◌, ◌<◌, ◌↔◌, Bool, true, List, length, slice_index}
use Rattle.std.specs.List.{slice_index_or}
use Rattle.code_forms.specs.declared.flat.FlatCode.{FlatCode}
use Rattle.code_forms.specs.declared.layout.Layout.{Layout}
use Rattle.code_forms.specs.declared.parts.StagedGroup.{StagedGroup}
use Rattle.code_forms.specs.declared.parts.StagedParts.{StagedParts}
use Rattle.code_forms.specs.Staged.{Staged, no_group, in_parts}
use Rattle.dependence.specs.Reach.{AreClasses}
use Rattle.dependence.specs.Uses.{Depends}
use Rattle.flat_graph.specs.Nodes.{nodes}
use Rattle.flat_graph.specs.Layouts.{IsLayout, RunsBehind}
use Rattle.index_resolve.specs.Groups.{AreOfSet, can_shard, IsDepthAt}
use Rattle.index_resolve.specs.HeaderRun.{CanShard}
use Rattle.index_resolve.specs.Order.{running, part_ends}

-- the numbers of the codelets of code
abbrev pub AreCodelets : FlatCode → List ℕ → Type 0
AreCodelets code classes = AreClasses (Depends (nodes code)) (length code.instrs) classes

-- the layout of code; each instruction is in the part of what it uses, or in a later one
pub record IsPacked (code : FlatCode) (l : Layout) : Type 0 where
  pub classes : List ℕ
  pub codelets : AreCodelets code classes
  pub layout : IsLayout code classes l
  pub ordered : RunsBehind (nodes code) l.spot

-- how many parts there are: a block before each group, and one behind all
abbrev pub part_count : Layout → ℕ
part_count l = 2 * length l.arrays + 1

-- a group by its number
abbrev pub group_in : List StagedGroup → ℕ → StagedGroup
group_in groups g = slice_index_or groups g no_group

-- the parts of code in a layout: its order, its groups, and its stages. A group has the arrays of its set, is sharded
-- exactly where it can be, and has the depth of the codelet of one of its instructions
pub record ArePartsOf (code : FlatCode) (l : Layout) (parts : StagedParts) : Type 0 where
  pub order_is : parts.order ≡ running l.spot code.instrs (part_count l)
  pub ends_are : parts.ends ≡ part_ends l.spot code.instrs (part_count l)
  pub count : length parts.groups ≡ length l.arrays
  pub arrays_are : (g : ℕ) → g < length l.arrays → AreOfSet (slice_index l.arrays g) (group_in parts.groups g).arrays
  pub shards : (g : ℕ) → g < length l.arrays → ((group_in parts.groups g).sharded ≡ true) ↔ CanShard code.fields code.arrays code.instrs (group_in parts.groups g).arrays
  pub classes : List ℕ
  pub codelets : AreCodelets code classes
  pub depths : (g : ℕ) → g < length l.arrays → IsDepthAt l.spot classes l.depth g (group_in parts.groups g).depth
  pub stages_are : parts.stages ≡ l.stages

-- staged code is the code in such parts
abbrev pub IsResolved : FlatCode → Layout → Staged → Type 0
IsResolved code l s = (parts : StagedParts) × (s ≡ in_parts code parts) × ArePartsOf code l parts

-- ---- how the groups are made

-- a group as it is made, where these values are clean
pub record IsMade (code : FlatCode) (l : Layout) (clean : List Bool) (classes : List ℕ) (g : ℕ) (group : StagedGroup) : Type 0 where
  pub arrays_are : AreOfSet (slice_index l.arrays g) group.arrays
  pub sharded_is : group.sharded ≡ can_shard clean code.fields code.arrays code.instrs group.arrays
  pub depth_is : IsDepthAt l.spot classes l.depth g group.depth

-- all groups
pub record AreMade (code : FlatCode) (l : Layout) (clean : List Bool) (groups : List StagedGroup) : Type 0 where
  pub classes : List ℕ
  pub codelets : AreCodelets code classes
  pub count : length groups ≡ length l.arrays
  pub each : (g : ℕ) → g < length l.arrays → IsMade code l clean classes g (group_in groups g)
