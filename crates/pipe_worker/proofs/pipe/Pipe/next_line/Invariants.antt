use Rattle.std.proofs.Common.{ℕ, ◌<◌}
use Rattle.pipe_worker.specs.Events.{CanSend}
use Rattle.pipe_worker.proofs.pipe.Pipe.next_line.Given as goal

-- no packet can go to the first pipes
abbrev pub invariant-loop-to : goal.invariant-loop-to
invariant-loop-to l = (q : ℕ) → q < l.to → CanSend l.self q → ⊥
