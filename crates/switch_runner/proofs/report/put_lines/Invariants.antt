use Rattle.std.proofs.Common.{◌≡◌, ◌≤◌, drop}
use Rattle.std.specs.List.{flat_map}
use Rattle.report_text.specs.Report.{text_of}
use Rattle.switch_runner.specs.Writing.{at}
use Rattle.switch_runner.proofs.WritingLemmas.{Goes}
use Rattle.switch_runner.proofs.report.put_lines.Given as goal

-- the lines before this one are put, and there is room for this one
abbrev pub invariant-loop-k : goal.invariant-loop-k
invariant-loop-k g l = record {
  same : l.report ≡ l.fn.report;
  room : l.fn.report.room ≤ l.line.room;
  goes :
      Goes (text_of l.fn.report.lines) (flat_map (λ line. line) (drop l.k l.fn.report.lines))
      (at l.fn.block (g.K.Sink.seen l.fn.out))
      (at l.block (g.K.Sink.seen l.out));
}
