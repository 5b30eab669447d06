use Rattle.domino_tree.proofs.TextLemmas.{lines_more}
use Rattle.domino_tree.proofs.printing.put_items.Goals as goal

pub loop-item-preserved : goal.loop-item-preserved
loop-item-preserved c =
    lines_more c.args.out.now.items c.loop-item.out.items c.put_item.new.out.items c.args.items.now c.loop-item.item-index c.item-item.result c.loop-item-test.true c.item-item.is c.loop-item.invariant c.in_ok-put_item.ensures
