use Rattle.pipe_driver.specs.Driver.{IsSamePipe}
use Rattle.switch_net.proofs.parallel.take_turns.Given as goal

-- the pipe is the same one
abbrev pub invariant-loop : goal.invariant-loop
invariant-loop g l = IsSamePipe l.fn.driver.worker.pipe l.driver.worker.pipe
