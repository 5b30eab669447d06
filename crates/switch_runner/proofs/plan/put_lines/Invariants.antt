use Rattle.std.proofs.Common.{◌≡◌, ◌≤◌, drop}
use Rattle.std.specs.List.{flat_map}
use Rattle.report_text.specs.PlanLines.{plan_text}
use Rattle.report_text.specs.PlanReading.{lines_in}
use Rattle.report_text.specs.Room.{room_of}
use Rattle.switch_runner.specs.Writing.{at}
use Rattle.switch_runner.proofs.WritingLemmas.{Goes}
use Rattle.switch_runner.proofs.plan.put_lines.Given as goal

-- the lines before this one are put, and there is room for this one
abbrev pub invariant-loop-k : goal.invariant-loop-k
invariant-loop-k g l = record {
  same : l.text ≡ l.fn.text;
  room : room_of l.fn.text.program ≤ l.line.room;
  goes :
      Goes (plan_text l.fn.text.program l.fn.text.code l.fn.text.headers) (flat_map (λ line. line) (drop l.k (lines_in l.fn.text)))
      (at l.fn.block (g.K.Sink.seen l.fn.out))
      (at l.block (g.K.Sink.seen l.out));
}
