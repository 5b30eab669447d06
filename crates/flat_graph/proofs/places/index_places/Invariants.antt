-- the places of the instructions from this one on are noted
use Rattle.std.proofs.Common.{drop}
use Rattle.flat_graph.specs.Orders.{ArePlaces}
use Rattle.flat_graph.proofs.places.index_places.Given as goal

abbrev pub invariant-loop-number : goal.invariant-loop-number
invariant-loop-number l = ArePlaces l.number (drop l.number l.instrs) l.places
