use Rattle.mp5_words.specs.Domain.{Mark}
use Rattle.source_rows.specs.MarkViews.{marks_of}
use Rattle.source_rows.proofs.StepLemmas.{field_is}
use Rattle.source_rows.proofs.marked.set_field.Goals as goal

pub returns-clause-walked : goal.returns-clause-walked
returns-clause-walked c =
    field_is Mark (marks_of c.args.checked.now) c.args.checked.now c.args.field c.args.expr.now c.args.context.now _
    c.args.walked.now.fields.items c.touch_all.new.walked.fields.items c.deref.result.now c.deref-3.result.now c.put_mark.new.all.items
    c.args.walked.now.copies.items c.touch_all.new.walked.copies.items c.deref-2.result.now c.in_ok-right.right c.in_ok-old.old c.in_ok-new.new
    c.in_ok-guard.ensures c.in_ok-touch_all.ensures.walked c.deref.ensures.value c.deref-2.ensures.value c.deref-3.ensures.value
    c.in_ok-right.ensures c.in_ok-old.ensures c.in_ok-new.ensures c.put_mark.ensures
