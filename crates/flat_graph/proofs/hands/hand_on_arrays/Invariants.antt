-- the instructions of arrays so far have handed their marks on
use Rattle.flat_graph.specs.Orders.{as_nodes}
use Rattle.flat_graph.specs.Passes.{Grows, HandedBelow}
use Rattle.flat_graph.proofs.hands.hand_on_arrays.Given as goal

abbrev pub invariant-loop-number : goal.invariant-loop-number
invariant-loop-number l = record {
  grows : Grows (as_nodes l.nodes) l.fn.rows l.rows;
  handed : HandedBelow l.number (as_nodes l.nodes) l.fn.rows l.rows;
}
