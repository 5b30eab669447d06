use Rattle.std.proofs.Common.{◌<◌, ℕ}
use Rattle.dependence.specs.Groups.{IsOn}
use Rattle.dependence.specs.Leaders.{Joined}
use Rattle.dependence.proofs.groups.leader.Given as goal

abbrev pub invariant-loop-other : goal.invariant-loop-other
invariant-loop-other l = (b : ℕ) → b < l.other → IsOn l.touched b → Joined l.table l.array b → ⊥
