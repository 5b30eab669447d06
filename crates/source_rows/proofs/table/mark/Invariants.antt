-- the marks so far and the arrays that are left are the marks before and all arrays
use Rattle.std.proofs.Common.{◌≡◌, ℕ, ◌<◌, ◌⊎◌, true, drop}
use Rattle.std.specs.Prelude.{◌↔◌}
use Rattle.dependence.specs.Tables.{has}
use Rattle.dependence.specs.Uses.{Member}
use Rattle.source_rows.proofs.table.mark.Given as goal

abbrev pub invariant-loop-array : goal.invariant-loop-array
invariant-loop-array l = (b : ℕ) → b < 16 → ((has l.row b ≡ true) ⊎ Member b (drop l.array-index l.arrays)) ↔ ((has l.initial.row b ≡ true) ⊎ Member b l.arrays)
