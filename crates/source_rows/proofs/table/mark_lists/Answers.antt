use Rattle.source_rows.proofs.NeedLemmas.{more_lists}
use Rattle.source_rows.proofs.table.mark_lists.Goals as goal

pub loop-list-preserved : goal.loop-list-preserved
loop-list-preserved c b small = more_lists b c.args.lists.now c.loop-list.list-index c.list-item.result _ c.loop-list-test.true c.list-item.is c.as_slice.ensures (c.mark.ensures b small) (c.loop-list.invariant b small)
