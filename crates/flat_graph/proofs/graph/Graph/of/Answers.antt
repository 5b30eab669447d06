-- the nodes of valid code are in order
use Rattle.std.proofs.Common.{sym, subst}
use Rattle.flat_graph.specs.Orders.{IsOrdered}
use Rattle.flat_graph.proofs.Ordered.{ordered}
use Rattle.flat_graph.proofs.graph.Graph.of.Goals as goal

pub invariant_of-result : goal.invariant_of-result
invariant_of-result c = let g = c.args.code.now in record { ordered = subst IsOrdered (sym c.in_ok-nodes.ensures) (ordered g.fields g.arrays g.instrs g.last g.valid) }
