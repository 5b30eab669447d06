-- the parts so far
use Rattle.std.proofs.Common.{◌≡◌}
use Rattle.index_resolve.specs.Order.{running, part_ends}
use Rattle.index_resolve.proofs.order.order_of.Given as goal

abbrev pub invariant-loop-part : goal.invariant-loop-part
invariant-loop-part l = record {
  numbers : l.numbers.items ≡ running l.spots l.instrs l.part;
  ends : l.ends.items ≡ part_ends l.spots l.instrs l.part;
}
