use Rattle.std.proofs.Common.{◌≡◌, length, map, replicate, take, vec_len, vec_capacity}
use Rattle.shard_rounds.proofs.loads.Loads.start.Given as goal

-- the counts of the first groups
abbrev pub invariant-loop-g : goal.invariant-loop-g
invariant-loop-g l = record {
  count : vec_len l.counts ≡ l.g;
  room : vec_capacity l.counts ≡ length l.units;
  counts : l.counts.items ≡ map (λ n. replicate n 0) (take l.g l.units);
}
