use Rattle.std.proofs.Common.{ℕ, ◌<◌, length}
use Rattle.pipe_parts.specs.Waiting.{waits_for}
use Rattle.pipe_worker.proofs.entering.have_room.Given as goal

-- fewer wait for each of the first pipes
abbrev pub invariant-loop-q : goal.invariant-loop-q
invariant-loop-q l = (k : ℕ) → k < l.q → length (waits_for l.outbox k) < l.room
