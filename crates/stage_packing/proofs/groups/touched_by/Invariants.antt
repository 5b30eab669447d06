use Rattle.std.proofs.Common.{◌≡◌, ◌<◌, ℕ, length}
use Rattle.std.specs.Prelude.{is_some}
use Rattle.dependence.specs.Tables.{has}
use Rattle.stage_packing.specs.Members.{member_of}
use Rattle.stage_packing.proofs.groups.touched_by.Given as goal

abbrev pub invariant-loop-array : goal.invariant-loop-array
invariant-loop-array l = record {
  long : length l.touched ≡ 16;
  right : (a : ℕ) → a < l.array → has l.touched a ≡ is_some (member_of l.members a);
}
