-- what is added up, with what is left
use Rattle.std.proofs.Common.{◌≡◌, ◌+◌, drop}
use Rattle.report_text.specs.Room.{fields_room}
use Rattle.report_text.proofs.line.fields_room.Given as goal

abbrev pub invariant-loop-name : goal.invariant-loop-name
invariant-loop-name l = l.room + fields_room (drop l.name-index l.names) ≡ fields_room l.names
