use Rattle.std.proofs.Common.{◌≡◌, vec_len, vec_capacity}
use Rattle.bench_parts.proofs.staged.units_of.Given as goal

-- there is room for the units that are left
abbrev pub invariant-loop-u : goal.invariant-loop-u
invariant-loop-u l = record {
  made : vec_len l.units ≡ l.u;
  room : vec_capacity l.units ≡ l.count;
}
