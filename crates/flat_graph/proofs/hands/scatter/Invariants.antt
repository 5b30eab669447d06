-- the rows so far have the marks
use Rattle.std.proofs.Common.{◌≡◌, ◌<◌, ◌==◌, ◌&&◌, ◌||◌, ℕ, length, take}
use Rattle.std.specs.List.{list_any}
use Rattle.dependence.specs.Tables.{has}
use Rattle.flat_graph.specs.ReachedArrays.{row}
use Rattle.flat_graph.proofs.hands.scatter.Given as goal

abbrev pub invariant-loop-number : goal.invariant-loop-number
invariant-loop-number l = record {
  long : length l.rows ≡ length l.fn.rows;
  marks : (j b : ℕ) → j < length l.fn.rows → b < 16 → has (row l.rows j) b ≡ (has (row l.fn.rows j) b || (list_any (λ n. j == n) (take l.number-index l.numbers) && has l.marks b));
}
