use Rattle.std.proofs.Common.{◌≡◌, ◌<◌, ℕ, length}
use Rattle.dependence.specs.Tables.{has}
use Rattle.flat_graph.specs.ReachedArrays.{row}
use Rattle.stage_packing.proofs.groups.row_of.Given as goal

abbrev pub invariant-loop-array : goal.invariant-loop-array
invariant-loop-array l = record {
  long : length l.row ≡ 16;
  right : (b : ℕ) → b < l.array → has l.row b ≡ has (row l.reached.rows l.member) b;
}
