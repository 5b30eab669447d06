use Rattle.std.proofs.Common.{arith}
use Rattle.report_text.proofs.LabelLemmas.{label_next}
use Rattle.report_text.proofs.labels.all_labels.Goals as goal

pub loop-i-preserved : goal.loop-i-preserved
loop-i-preserved c =
    label_next c.args.names.now c.loop-i.i c.name.result.now c.in_ok-label_of.field-0 c.loop-i.labels.items c.push.new.self.items (omega (arith, c.count-i-end.ensures.count, c.loop-i-test.true)) c.name.ensures c.in_ok-label_of.ensures c.loop-i.invariant
    c.in_ok-push.ensures.items
