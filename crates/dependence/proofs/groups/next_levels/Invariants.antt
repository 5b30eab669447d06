use Rattle.std.proofs.Common.{◌≡◌, ◌<◌, ℕ, length, slice_index}
use Rattle.dependence.specs.Levels.{IsLevelOver}
use Rattle.dependence.proofs.groups.next_levels.Given as goal

abbrev pub invariant-loop-array : goal.invariant-loop-array
invariant-loop-array l = record {
  long : length l.next ≡ 16;
  right : (a : ℕ) → a < l.array → IsLevelOver l.table l.levels a (slice_index l.next a);
}
