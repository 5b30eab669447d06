use Rattle.std.proofs.Common.{◌≡◌, ◌<◌, ℕ, Some}
use Rattle.dependence.specs.Groups.{group_of}
use Rattle.stage_packing.specs.Members.{member_of}
use Rattle.stage_packing.proofs.depths.head_of.Given as goal

abbrev pub invariant-loop-array : goal.invariant-loop-array
invariant-loop-array l = (a m : ℕ) → a < l.array → member_of l.members a ≡ Some m → group_of l.of a ≡ Some l.group → ⊥
