use Rattle.std.proofs.Common.{◌≡◌, replicate}
use Rattle.stage_packing.proofs.depths.zeros.Given as goal

abbrev pub invariant-loop : goal.invariant-loop
invariant-loop l = l.depths.items ≡ replicate l.counter 0
