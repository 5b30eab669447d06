-- the line isn't before the cell, and none is put
use Rattle.std.proofs.Common.{◌≡◌, ◌≤◌, ◌+◌, ◌-◌, [], length}
use Rattle.report_text.specs.Told.{IsAtCell}
use Rattle.report_text.proofs.cells.CellPlace.put_line.Given as goal

abbrev pub invariant-loop-self : goal.invariant-loop-self
invariant-loop-self l = record {
  place : IsAtCell l.infos l.words l.self.array l.self.cell l.self.at l.self.before;
  before : l.self.before ≤ l.k;
  empty : l.into.text ≡ [];
  room : l.fn.into.room ≤ l.into.room;
}

abbrev pub decreases-loop-self : goal.decreases-loop-self
decreases-loop-self l = (length l.infos - l.self.array) + (length l.words - l.self.at)
