-- what is put so far
use Rattle.std.proofs.Common.{◌≡◌, ◌≤◌, ◌+◌, ◌*◌, ◌++◌, length, flat_map, take}
use Rattle.report_text.specs.AnswerLines.{move_text}
use Rattle.report_text.proofs.run_text.put_moves.Given as goal

abbrev pub invariant-loop-step : goal.invariant-loop-step
invariant-loop-step l = record {
  text : l.into.text ≡ l.initial.into.text ++ flat_map move_text (take l.step-index l.moves);
  fits : length l.into.text ≤ length l.initial.into.text + l.step-index * 44;
  room : l.initial.into.room ≤ l.into.room;
}
