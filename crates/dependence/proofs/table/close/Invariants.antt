use Rattle.std.proofs.Common.{◌≡◌, ◌<◌, ◌||◌, ℕ}
use Rattle.std.specs.Prelude.{◌==◌}
use Rattle.dependence.specs.Tables.{at, via}
use Rattle.dependence.proofs.table.close.Given as goal

abbrev pub invariant-loop-node : goal.invariant-loop-node
invariant-loop-node l = (a b : ℕ) → a < 16 → b < 16 → ((a == b) || at l.table a b) ≡ via (at l.fn.table) l.node a b
