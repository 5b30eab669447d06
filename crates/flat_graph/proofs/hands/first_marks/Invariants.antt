-- the first marks so far
use Rattle.std.proofs.Common.{◌≡◌, ◌<◌, ℕ, length}
use Rattle.dependence.specs.Uses.{node_at}
use Rattle.dependence.specs.Tables.{has}
use Rattle.flat_graph.specs.ReachedArrays.{row}
use Rattle.flat_graph.specs.Orders.{as_nodes}
use Rattle.flat_graph.specs.Passes.{starts_at}
use Rattle.flat_graph.proofs.hands.first_marks.Given as goal

abbrev pub invariant-loop-node : goal.invariant-loop-node
invariant-loop-node l = record {
  long : length l.rows.items ≡ l.node-index;
  marks : (i b : ℕ) → i < l.node-index → b < 16 → has (row l.rows.items i) b ≡ starts_at l.table (node_at (as_nodes l.nodes) i).array b;
}
