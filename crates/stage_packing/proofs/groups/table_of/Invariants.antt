use Rattle.std.proofs.Common.{◌≡◌, ◌<◌, ℕ, length}
use Rattle.dependence.specs.Tables.{at}
use Rattle.stage_packing.specs.Members.{member_of, reaches}
use Rattle.stage_packing.proofs.groups.table_of.Given as goal

abbrev pub invariant-loop-array : goal.invariant-loop-array
invariant-loop-array l = record {
  long : length l.table ≡ 16;
  right : (a : ℕ) → a < l.array → (b : ℕ) → b < 16 → at l.table a b ≡ reaches l.reached.rows (member_of l.members a) b;
}
