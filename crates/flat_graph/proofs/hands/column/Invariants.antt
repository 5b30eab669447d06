-- the marks of the arrays so far
use Rattle.std.proofs.Common.{◌≡◌, ◌<◌, ℕ, length}
use Rattle.dependence.specs.Tables.{has, at}
use Rattle.flat_graph.proofs.hands.column.Given as goal

abbrev pub invariant-loop-other : goal.invariant-loop-other
invariant-loop-other l = record {
  long : length l.row ≡ 16;
  marks : (b : ℕ) → b < l.other → has l.row b ≡ at l.table b l.array;
}
