-- those so far that are chosen
use Rattle.std.proofs.Common.{◌≡◌, ◌++◌}
use Rattle.index_resolve.specs.Order.{is_in, chosen}
use Rattle.index_resolve.proofs.order.push_kind.Given as goal

abbrev pub invariant-loop-number : goal.invariant-loop-number
invariant-loop-number l = l.numbers.items ≡ l.initial.numbers.items ++ chosen (is_in l.spots l.instrs l.part l.stores) l.number
