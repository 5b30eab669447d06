-- what the arrays so far reach
use Rattle.std.proofs.Common.{◌≡◌, ◌<◌, ℕ}
use Rattle.dependence.specs.Tables.{has}
use Rattle.flat_graph.specs.Passes.{spread_to}
use Rattle.flat_graph.proofs.rows.spread.Given as goal

abbrev pub invariant-loop-array : goal.invariant-loop-array
invariant-loop-array l = (b : ℕ) → b < 16 → has l.row b ≡ spread_to l.marks l.table l.array b
