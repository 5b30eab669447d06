-- none of the arrays so far is in the set
use Rattle.std.proofs.Common.{◌≡◌, ℕ, ◌<◌, false}
use Rattle.report_text.specs.PlanLines.{in_set}
use Rattle.report_text.proofs.accesses.first_array.Given as goal

abbrev pub invariant-loop-a : goal.invariant-loop-a
invariant-loop-a l = (b : ℕ) → b < l.a → in_set l.set b ≡ false
