use Rattle.std.proofs.Common.{◌<◌, ℕ}
use Rattle.stage_packing.specs.Spots.{IsOf}
use Rattle.stage_packing.proofs.spots.group_at.Given as goal

abbrev pub invariant-loop-array : goal.invariant-loop-array
invariant-loop-array l = (a g : ℕ) → a < l.array → IsOf l.classes l.members l.of l.class a g → ⊥
