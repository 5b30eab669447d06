use Rattle.std.proofs.Common.{arith}
use Rattle.domino_names.proofs.SymbolLemmas.{after_one, items_one}
use Rattle.domino_names.proofs.declarations.push_items.Goals as goal

pub loop-item-preserved : goal.loop-item-preserved
loop-item-preserved c = record {
  pushed = items_one c.args.arrays c.args.items.now c.loop-item.item-index c.item-item.result c.loop-item-test.true c.item-item.is
      c.args.out.now.items c.loop-item.out.items c.push_item.new.out.items c.loop-item.next c.loop-item.invariant.pushed c.loop-item.invariant.next c.in_ok-next.ensures.list;
  next = after_one c.args.arrays c.args.items.now c.loop-item.item-index c.item-item.result c.loop-item-test.true c.item-item.is
      c.loop-item.next c.in_ok-next.next c.loop-item.invariant.next c.in_ok-next.ensures.next;
  within = omega (arith, c.in_ok-next.ensures.within, c.loop-item.invariant.within);
}
