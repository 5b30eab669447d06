use Rattle.std.proofs.Common.{◌≡◌, ◌<◌, ℕ, length, Some}
use Rattle.dependence.specs.Groups.{group_of}
use Rattle.dependence.specs.Leaders.{leader_of}
use Rattle.dependence.proofs.groups.ArrayGroups.number.Given as goal

abbrev pub invariant-loop-array : goal.invariant-loop-array
invariant-loop-array l = record {
  long : length l.self.of ≡ length l.fn.self.of;
  count : l.self.count ≡ l.fn.self.count;
  given : (a : ℕ) → a < l.array → leader_of l.leaders a ≡ Some l.least → group_of l.self.of a ≡ Some l.fn.self.count;
  left : (a : ℕ) → (leader_of l.leaders a ≡ Some l.least → ⊥) → group_of l.self.of a ≡ group_of l.fn.self.of a;
}
