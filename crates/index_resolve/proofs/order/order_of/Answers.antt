-- a count of instructions is a small number
use Rattle.std.proofs.Common.{◌≡◌, ◌≤◌, ◌*◌, ◌∙◌, ◌++◌, suc, length, ap, arith}
use Rattle.index_resolve.specs.Order.{running, part_order}
use Rattle.index_resolve.proofs.OrderPlaces.{running_few}
use Rattle.index_resolve.proofs.order.order_of.Goals as goal

pub overflow_cast-len : goal.overflow_cast-len
overflow_cast-len c =
    let s = c.args.spots.now in
    let is = c.args.instrs.now in
    let p = c.loop-part.part in
    let all : c.push_part.new.numbers.items ≡ running s is p ++ part_order s is p = c.in_ok-push_part.ensures ∙ ap (λ l. l ++ part_order s is p) c.loop-part.invariant.numbers in
    let few : length (running s is (suc p)) ≤ 2048 * suc p = running_few s is (suc p) c.requires.few in
    let long = ap length all in
    omega (arith, c.len.ensures, few, long, c.loop-part-test.true, c.requires.parts)
