use Rattle.std.proofs.Common.{◌≡◌, ◌<◌, ℕ, length}
use Rattle.dependence.specs.Leaders.{IsLeader, leader_of}
use Rattle.dependence.proofs.groups.leaders.Given as goal

abbrev pub invariant-loop-array : goal.invariant-loop-array
invariant-loop-array l = record {
  long : length l.leaders ≡ 16;
  right : (a : ℕ) → a < l.array → IsLeader l.touched l.table a (leader_of l.leaders a);
}
