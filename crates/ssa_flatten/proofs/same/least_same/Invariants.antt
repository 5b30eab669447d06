-- no array so far has the index
use Rattle.std.proofs.Common.{◌≡◌, ◌<◌, ℕ, Some}
use Rattle.code_forms.specs.GuardMeaning.{index_at}
use Rattle.ssa_flatten.proofs.same.least_same.Given as goal

abbrev pub invariant-loop-i : goal.invariant-loop-i
invariant-loop-i l = (b : ℕ) → b < l.i → index_at l.shapes b ≡ Some l.index → ⊥
