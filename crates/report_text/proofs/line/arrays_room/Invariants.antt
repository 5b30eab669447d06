-- what is added up, with what is left
use Rattle.std.proofs.Common.{◌≡◌, ◌+◌, drop}
use Rattle.report_text.specs.Room.{arrays_room}
use Rattle.report_text.proofs.line.arrays_room.Given as goal

abbrev pub invariant-loop-info : goal.invariant-loop-info
invariant-loop-info l = l.room + arrays_room (drop l.info-index l.infos) ≡ arrays_room l.infos
