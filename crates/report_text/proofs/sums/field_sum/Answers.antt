use Rattle.std.proofs.Common.{FitsSigned, ◌∙◌, ap, pos, slice_index_or, w32, rules, arith}
use Rattle.std.proofs.lemmas.List.{take_all}
use Rattle.capture_io.specs.Rows.{rows}
use Rattle.switch_net.specs.Marks.{word_sum}
use Rattle.report_text.specs.Report.{column}
use Rattle.report_text.proofs.SumLemmas.{column-long, column-next}
use Rattle.report_text.proofs.sums.field_sum.Goals as goal

pub loop-t-preserved : goal.loop-t-preserved
loop-t-preserved c =
    let a = c.args.answer.now in
    let fits : FitsSigned w32 (slice_index_or c.packet_at.result.now c.args.field (pos 0)) = search rules in
    record {
      summed =
          column-next c.args.field a.arrivals c.args.width a.packets.items c.packet_at.result.now c.loop-t.t c.loop-t.sum-bits c.loop-t-test.true c.packet_at.ensures.words (omega arith) fits
          c.loop-t.invariant.summed;
    }

pub returns : goal.returns
returns c =
    let a = c.args.answer.now in
    let all = column c.args.field (rows a.arrivals c.args.width a.packets.items) in
    let long = column-long c.args.field a.arrivals c.args.width a.packets.items in
    c.loop-t.invariant.summed ∙ ap word_sum (take_all c.loop-t.t all (omega (arith, long, c.loop-t-test.false)))
