-- the line isn't before the entry, and none is put
use Rattle.std.proofs.Common.{◌≡◌, ◌≤◌, ◌-◌, [], length}
use Rattle.report_text.specs.AnswerLines.{entry_lines}
use Rattle.report_text.specs.Told.{IsAtEntry}
use Rattle.report_text.proofs.accesses.EntryPlace.put_line.Given as goal

abbrev pub invariant-loop-self : goal.invariant-loop-self
invariant-loop-self l = record {
  place : IsAtEntry (entry_lines l.checked l.code l.answer) (length l.answer.by.items) l.self.entry l.self.before;
  before : l.self.before ≤ l.k;
  empty : l.into.text ≡ [];
  room : l.fn.into.room ≤ l.into.room;
}

abbrev pub decreases-loop-self : goal.decreases-loop-self
decreases-loop-self l = length l.answer.by.items - l.self.entry
