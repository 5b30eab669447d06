-- none of the group so far is open
use Rattle.std.proofs.Common.{ℕ, ◌<◌, IsTrue}
use Rattle.dependence.specs.Tables.{has}
use Rattle.source_rows.specs.Members.{IsOf}
use Rattle.source_rows.proofs.group_places.some_open.Given as goal

abbrev pub invariant-loop-a : goal.invariant-loop-a
invariant-loop-a l = (k : ℕ) → k < l.a → IsOf l.of l.group k → ¬ IsTrue (has l.marks k)
