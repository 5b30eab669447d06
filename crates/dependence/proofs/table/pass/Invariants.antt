use Rattle.std.proofs.Common.{◌≡◌, ◌<◌, ◌≤◌, ◌||◌, ℕ, length}
use Rattle.std.specs.Prelude.{◌&&◌}
use Rattle.dependence.specs.Tables.{at, has}
use Rattle.dependence.proofs.table.pass.Given as goal

abbrev pub invariant-loop-row : goal.invariant-loop-row
invariant-loop-row l = record {
  long : length l.table ≡ 16;
  done : (a b : ℕ) → a < l.row-index → b < 16 → at l.table a b ≡ (at l.fn.table a b || (at l.fn.table a l.node && has l.through b));
  left : (a b : ℕ) → l.row-index ≤ a → at l.table a b ≡ at l.fn.table a b;
}
