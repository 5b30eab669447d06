use Rattle.std.proofs.Common.{◌≡◌, ◌<◌, ℕ, length, slice_index, vec_len, vec_capacity}
use Rattle.shard_rounds.specs.Holding.{row_at, first_row}
use Rattle.shard_rounds.proofs.owners.Owners.start.Given as goal

-- the rows of the first groups
abbrev pub invariant-loop-g : goal.invariant-loop-g
invariant-loop-g l = record {
  count : vec_len l.rows ≡ l.g;
  room : vec_capacity l.rows ≡ length l.units;
  rows : (k : ℕ) → k < l.g → row_at l.rows.items k ≡ first_row l.pipelines k (slice_index l.units k);
}
