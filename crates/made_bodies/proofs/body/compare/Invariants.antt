-- the bench stays one over the checked program
use Rattle.std.proofs.Common.{◌≡◌}
use Rattle.made_bodies.proofs.body.compare.Given as goal

abbrev pub invariant-loop : goal.invariant-loop
invariant-loop l = l.bench.program ≡ l.checked
