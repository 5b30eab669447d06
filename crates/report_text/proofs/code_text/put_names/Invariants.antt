-- what is put so far, with what is left
use Rattle.std.proofs.Common.{◌≡◌, ◌≤◌, ◌+◌, ◌++◌, length, drop}
use Rattle.report_text.specs.Room.{arrays_room}
use Rattle.report_text.specs.PlanLines.{names_in}
use Rattle.report_text.proofs.code_text.put_names.Given as goal

abbrev pub invariant-loop-array : goal.invariant-loop-array
invariant-loop-array l = record {
  text : l.into.text ++ names_in l.set l.array (drop l.array l.infos) ≡ l.initial.into.text ++ names_in l.set 0 l.infos;
  fits : length l.into.text + arrays_room (drop l.array l.infos) ≤ length l.initial.into.text + arrays_room l.infos;
  room : l.initial.into.room ≤ l.into.room;
}
