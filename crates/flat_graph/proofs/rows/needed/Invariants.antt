-- what the instructions so far need
use Rattle.std.proofs.Common.{◌≡◌, ◌<◌, ℕ, take}
use Rattle.std.specs.List.{list_any}
use Rattle.dependence.specs.Tables.{at}
use Rattle.flat_graph.specs.Orders.{as_nodes}
use Rattle.flat_graph.specs.Passes.{needs_by}
use Rattle.flat_graph.proofs.rows.needed.Given as goal

abbrev pub invariant-loop-node : goal.invariant-loop-node
invariant-loop-node l = (a b : ℕ) → a < 16 → b < 16 → at l.table a b ≡ list_any (needs_by l.rows a b) (take l.node-index (as_nodes l.nodes))
