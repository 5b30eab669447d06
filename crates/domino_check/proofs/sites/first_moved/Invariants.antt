-- none of the arrays so far is moved
use Rattle.std.proofs.Common.{◌≡◌, ℕ, ◌<◌, false}
use Rattle.domino_check.specs.Touches.{is_moved}
use Rattle.domino_check.proofs.sites.first_moved.Given as goal

abbrev pub invariant-loop-array : goal.invariant-loop-array
invariant-loop-array l = (b : ℕ) → b < l.array → is_moved l.touched l.indexes l.field b ≡ false
