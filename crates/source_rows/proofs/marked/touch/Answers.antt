use Rattle.mp5_words.specs.Domain.{Mark}
use Rattle.source_rows.specs.MarkViews.{marks_of}
use Rattle.source_rows.proofs.StepLemmas.{touch_is}
use Rattle.source_rows.proofs.marked.touch.Goals as goal

pub returns-clause-copies : goal.returns-clause-copies
returns-clause-copies c =
    touch_is Mark (marks_of c.args.checked.now) c.args.checked.now c.args.walked.now.fields.items c.deref.result.now c.args.guard.now c.args.walked.now.copies.items c.take_copy-old.new.copies.items c.put_copy.new.copies.items c.args.array c.take_copy-old.result c.in_ok-new.new
    c.deref.ensures.value c.take_copy-old.ensures.copy c.take_copy-old.ensures.rest c.in_ok-new.ensures c.put_copy.ensures
