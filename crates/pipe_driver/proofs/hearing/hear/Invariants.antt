use Rattle.pipe_driver.specs.Driver.{IsReceiver, HasQueues}
use Rattle.pipe_driver.specs.Turning.{Hears}
use Rattle.pipe_driver.proofs.hearing.hear.Given as goal

-- the lane is as it should be, and only what is heard from it changes
abbrev pub invariant-loop : goal.invariant-loop
invariant-loop g l = IsReceiver l.pipe l.from l.lane l.held × HasQueues l.pipe × Hears l.from l.initial.pipe l.pipe
