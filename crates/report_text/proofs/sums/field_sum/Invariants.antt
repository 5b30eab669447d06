-- the sum of the words in the first packets
use Rattle.std.proofs.Common.{◌≡◌, take}
use Rattle.capture_io.specs.Rows.{rows}
use Rattle.switch_net.specs.Marks.{word_sum}
use Rattle.report_text.specs.Report.{column}
use Rattle.report_text.proofs.sums.field_sum.Given as goal

abbrev pub invariant-loop-t : goal.invariant-loop-t
invariant-loop-t l = record {
  summed : l.sum ≡ word_sum (take l.t (column l.field (rows l.answer.arrivals l.width l.answer.packets.items)));
}
