-- so many lines are passed, and none is put
use Rattle.std.proofs.Common.{◌≡◌, ◌≤◌, ◌+◌, [], length}
use Rattle.report_text.specs.PlanReading.{numbers_lines}
use Rattle.report_text.proofs.cursor.put_nth.Given as goal

abbrev pub invariant-loop-g : goal.invariant-loop-g
invariant-loop-g l = record {
  counted : l.left ≡ length (numbers_lines l.t l.places l.g) + l.rest;
  empty : l.into.text ≡ [];
  room : l.initial.into.room ≤ l.into.room;
}
