-- the marks so far are what the first nodes show
use Rattle.std.proofs.Common.{◌≡◌, ◌<◌, ℕ, length}
use Rattle.dependence.specs.Uses.{node_at}
use Rattle.dependence.specs.Tables.{has}
use Rattle.flat_graph.specs.ReachedArrays.{row}
use Rattle.flat_graph.specs.Orders.{as_nodes}
use Rattle.flat_graph.specs.Passes.{shown_by}
use Rattle.flat_graph.proofs.rows.shown.Given as goal

abbrev pub invariant-loop-node : goal.invariant-loop-node
invariant-loop-node l = record {
  long : length l.rows.items ≡ l.node-index;
  marks : (i b : ℕ) → i < l.node-index → b < 16 → has (row l.rows.items i) b ≡ shown_by l.rows.items (node_at (as_nodes l.nodes) i) b;
}
