-- the copies of the arrays from this one on are noted
use Rattle.std.proofs.Common.{◌≡◌, drop, length}
use Rattle.flat_graph.specs.Orders.{AreCopies, copies_in}
use Rattle.flat_graph.proofs.places.copies_of.Given as goal

abbrev pub invariant-loop-array : goal.invariant-loop-array
invariant-loop-array l = record {
  long : length l.copies.items ≡ l.count;
  copies : AreCopies l.count l.array (drop l.array (copies_in l.arrays)) l.copies.items;
}
