-- The environments that are made so far.
use Rattle.std.proofs.Common.{◌≡◌, replicate, pos, vec_len, vec_capacity}
use Rattle.pipe_parts.proofs.envs.Envs.new.Given as goal

-- so many, each of zero words
abbrev pub invariant-loop : goal.invariant-loop
invariant-loop l = record {
  envs : l.free.items ≡ replicate l.counter (replicate l.slots (pos 0));
  len : vec_len l.free ≡ l.counter;
  room : vec_capacity l.free ≡ l.count;
}
