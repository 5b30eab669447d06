use Rattle.pipe_driver.specs.Driver.{HasQueues}
use Rattle.pipe_driver.specs.Turning.{Turns}
use Rattle.pipe_driver.proofs.turning.turns.Given as goal

-- so far the pipe has only done own events
abbrev pub invariant-loop : goal.invariant-loop
invariant-loop l = HasQueues l.pipe × Turns l.initial.pipe l.pipe
