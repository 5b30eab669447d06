use Rattle.mp5_words.specs.Domain.{sources}
use Rattle.source_rows.specs.Views.{Sources}
use Rattle.source_rows.proofs.StepLemmas.{touch_is}
use Rattle.source_rows.proofs.sources.touch.Goals as goal

pub returns-clause-copies : goal.returns-clause-copies
returns-clause-copies c =
    touch_is Sources sources c.args.checked.now c.args.walked.now.fields.items c.deref.result.now c.args.guard.now c.args.walked.now.copies.items c.take_copy-old.new.copies.items c.put_copy.new.copies.items c.args.array c.take_copy-old.result c.in_ok-new.new
    c.deref.ensures.value c.take_copy-old.ensures.copy c.take_copy-old.ensures.rest c.in_ok-new.ensures c.put_copy.ensures
