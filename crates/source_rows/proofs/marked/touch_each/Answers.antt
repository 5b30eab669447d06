-- one array more
use Rattle.mp5_words.specs.Domain.{Mark}
use Rattle.source_rows.specs.MarkViews.{marks_of}
use Rattle.source_rows.proofs.StepLemmas.{each_more}
use Rattle.source_rows.proofs.marked.touch_each.Goals as goal

pub loop-array-preserved : goal.loop-array-preserved
loop-array-preserved c = record {
  walked = each_more Mark (marks_of c.args.checked.now) c.args.checked.now c.args.arrays.now c.loop-array.array-index c.args.guard.now c.loop-array.walked.fields.items c.touch.new.walked.fields.items c.loop-array.walked.copies.items c.touch.new.walked.copies.items _
      c.loop-array-test.true c.in_ok-touch.ensures.fields c.in_ok-touch.ensures.copies c.loop-array.invariant.walked;
  long = c.in_ok-touch.ensures.long;
}
