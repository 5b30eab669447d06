-- the slots so far
use Rattle.std.proofs.Common.{◌≡◌}
use Rattle.ssa_flatten.specs.Flattening.{slots_from}
use Rattle.ssa_flatten.proofs.pass.header_slots.Given as goal

abbrev pub invariant-loop-k : goal.invariant-loop-k
invariant-loop-k l = l.slots.items ≡ slots_from 0 l.k
