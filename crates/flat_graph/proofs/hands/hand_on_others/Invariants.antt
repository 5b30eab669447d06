-- the instructions of no array from this one on have handed their marks on
use Rattle.flat_graph.specs.Orders.{as_nodes}
use Rattle.flat_graph.specs.Passes.{Grows, SettledFrom}
use Rattle.flat_graph.proofs.hands.hand_on_others.Given as goal

abbrev pub invariant-loop-number : goal.invariant-loop-number
invariant-loop-number l = record {
  grows : Grows (as_nodes l.nodes) l.fn.rows l.rows;
  settled : SettledFrom l.number (as_nodes l.nodes) l.rows;
}
