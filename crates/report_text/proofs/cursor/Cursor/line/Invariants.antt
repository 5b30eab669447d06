-- the line isn't before the arrival, and none is put
use Rattle.std.proofs.Common.{◌≡◌, ◌≤◌, ◌-◌, [], length}
use Rattle.report_text.proofs.cursor.Cursor.line.Given as goal

abbrev pub invariant-loop-self : goal.invariant-loop-self
invariant-loop-self l = record {
  code : l.self.code ≡ l.fn.self.code;
  headers : l.self.headers ≡ l.fn.self.headers;
  before : l.self.before ≤ l.k;
  empty : l.into.text ≡ [];
  room : l.fn.into.room ≤ l.into.room;
}

abbrev pub decreases-loop-self : goal.decreases-loop-self
decreases-loop-self l = length l.self.headers - l.self.arrival
