use Rattle.std.proofs.Common.{ℕ, ◌<◌}
use Rattle.pipe_worker.specs.Events.{CanLeave}
use Rattle.pipe_worker.proofs.pipe.Pipe.done_group.Given as goal

-- no round of the first groups can be left
abbrev pub invariant-loop-g : goal.invariant-loop-g
invariant-loop-g l = (g : ℕ) → g < l.g → CanLeave l.self g → ⊥
