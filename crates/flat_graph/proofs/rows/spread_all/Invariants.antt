-- the rows so far are spread, and the others are as they were
use Rattle.std.proofs.Common.{◌≡◌, ◌<◌, ◌≤◌, ℕ, length}
use Rattle.dependence.specs.Tables.{has}
use Rattle.flat_graph.specs.ReachedArrays.{row}
use Rattle.flat_graph.specs.Passes.{spread_to}
use Rattle.flat_graph.proofs.rows.spread_all.Given as goal

abbrev pub invariant-loop-row : goal.invariant-loop-row
invariant-loop-row l = record {
  long : length l.rows ≡ length l.fn.rows;
  done : (i b : ℕ) → i < l.row-index → b < 16 → has (row l.rows i) b ≡ spread_to (row l.fn.rows i) l.table 16 b;
  left : (i : ℕ) → l.row-index ≤ i → row l.rows i ≡ row l.fn.rows i;
}
