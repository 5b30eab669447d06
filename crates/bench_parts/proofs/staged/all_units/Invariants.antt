use Rattle.std.proofs.Common.{◌≡◌, vec_len, vec_capacity}
use Rattle.bench_parts.proofs.staged.all_units.Given as goal

-- there is room for the groups that are left
abbrev pub invariant-loop-g : goal.invariant-loop-g
invariant-loop-g l = record {
  made : vec_len l.all ≡ l.g;
  room : vec_capacity l.all ≡ l.groups;
}
