use Rattle.std.proofs.Common.{◌≡◌, ◌<◌, ◌≤◌, ◌||◌, ℕ}
use Rattle.dependence.specs.Tables.{has}
use Rattle.dependence.proofs.table.unite.Given as goal

abbrev pub invariant-loop-i : goal.invariant-loop-i
invariant-loop-i l = record {
  done : (k : ℕ) → k < l.i → has l.row k ≡ (has l.fn.row k || has l.other k);
  left : (k : ℕ) → l.i ≤ k → has l.row k ≡ has l.fn.row k;
}
