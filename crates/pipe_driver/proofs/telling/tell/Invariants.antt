use Rattle.pipe_driver.specs.Driver.{IsSender}
use Rattle.pipe_driver.specs.Turning.{Tells}
use Rattle.pipe_driver.proofs.telling.tell.Given as goal

-- the lane is as it should be, and only what is told on it changes
abbrev pub invariant-loop : goal.invariant-loop
invariant-loop g l = IsSender l.pipe l.to l.lane l.unsent × Tells l.to l.initial.pipe l.pipe
