-- The queues that are made so far.
use Rattle.std.proofs.Common.{◌≡◌, map, replicate, [], vec_len, vec_capacity, deque_items, All}
use Rattle.pipe_parts.specs.Room.{HasRoom}
use Rattle.pipe_parts.proofs.outbox.Outbox.new.Given as goal

-- so many, each empty and with room
abbrev pub invariant-loop : goal.invariant-loop
invariant-loop g l = record {
  lines : map deque_items l.lines.items ≡ replicate l.counter [];
  rooms : All (HasRoom l.room) l.lines.items;
  len : vec_len l.lines ≡ l.counter;
  room : vec_capacity l.lines ≡ l.pipes;
}
