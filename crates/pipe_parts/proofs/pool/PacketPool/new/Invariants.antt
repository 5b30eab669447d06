-- The slots that are made so far.
use Rattle.std.proofs.Common.{◌≡◌, ℕ, ◌<◌, replicate, None, slice_index_or, vec_len, vec_capacity}
use Rattle.pipe_parts.proofs.pool.PacketPool.new.Given as goal

-- each is empty, and stands among the empty ones in its place
abbrev pub invariant-loop-slot : goal.invariant-loop-slot
invariant-loop-slot l = record {
  slots : l.slots.items ≡ replicate l.slot None;
  free : (i : ℕ) → i < l.slot → slice_index_or l.free.items i 0 ≡ i;
  made : vec_len l.slots ≡ l.slot;
  known : vec_len l.free ≡ l.slot;
  room : vec_capacity l.slots ≡ l.room;
  more : vec_capacity l.free ≡ l.room;
}
