use Rattle.std.proofs.Common.{◌≤◌, ◌-◌, length}
use Rattle.egress_order.specs.OwnPackets.{leading}
use Rattle.egress_order.proofs.exit.leading_from.Given as goal

-- so many flags are set
abbrev pub invariant-loop-count : goal.invariant-loop-count
invariant-loop-count l = l.count ≤ leading l.flags

abbrev pub decreases-loop-count : goal.decreases-loop-count
decreases-loop-count l = length l.flags - l.count
