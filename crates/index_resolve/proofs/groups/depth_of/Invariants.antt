-- no instruction so far is of the group
use Rattle.std.proofs.Common.{◌≡◌, ℕ, ◌<◌}
use Rattle.code_forms.specs.declared.layout.Spot.TheVariants as spot
use Rattle.flat_graph.specs.Layouts.{spot_at}
use Rattle.index_resolve.proofs.groups.depth_of.Given as goal

abbrev pub invariant-loop-number : goal.invariant-loop-number
invariant-loop-number l = (i : ℕ) → i < l.number → spot_at l.spots i ≡ spot.Group l.group → ⊥
