use Rattle.std.proofs.Common.{refl}
use Rattle.mp5_words.specs.Domain.{Mark}
use Rattle.source_rows.specs.MarkViews.{marks_of}
use Rattle.source_rows.proofs.StepLemmas.{cell_is}
use Rattle.source_rows.proofs.marked.set_cell.Goals as goal

pub returns-clause-walked : goal.returns-clause-walked
returns-clause-walked c =
    cell_is Mark (marks_of c.args.checked.now) c.args.checked.now c.args.array c.args.expr.now c.args.context.now c.in_ok-guard.guard _ _
    c.args.walked.now.fields.items c.touch.new.walked.fields.items c.touch_all.new.walked.fields.items c.deref.result.now
    c.args.walked.now.copies.items c.touch.new.walked.copies.items c.touch_all.new.walked.copies.items c.deref-2.result.now c.take_copy-old.new.copies.items c.put_copy.new.copies.items
    c.in_ok-right.right c.take_copy-old.result c.in_ok-new.new
    c.in_ok-guard.ensures refl refl
    c.in_ok-touch.ensures.fields c.in_ok-touch.ensures.copies c.in_ok-touch_all.ensures.walked
    c.deref.ensures.value c.deref-2.ensures.value c.in_ok-right.ensures
    c.take_copy-old.ensures.copy c.take_copy-old.ensures.rest c.in_ok-new.ensures c.put_copy.ensures
