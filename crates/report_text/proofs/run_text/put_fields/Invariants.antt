-- what is put so far, with what is left
use Rattle.std.proofs.Common.{◌≡◌, ◌≤◌, ◌+◌, ◌++◌, length, map, drop}
use Rattle.report_text.specs.Room.{fields_room}
use Rattle.report_text.specs.Report.{label, fields_text}
use Rattle.report_text.proofs.run_text.put_fields.Given as goal

abbrev pub invariant-loop-i : goal.invariant-loop-i
invariant-loop-i l = record {
  text : l.into.text ++ fields_text (map label (drop l.i l.names)) (drop l.i l.values) ≡ l.initial.into.text ++ fields_text (map label l.names) l.values;
  fits : length l.into.text + fields_room (drop l.i l.names) ≤ length l.initial.into.text + fields_room l.names;
  room : l.initial.into.room ≤ l.into.room;
}
