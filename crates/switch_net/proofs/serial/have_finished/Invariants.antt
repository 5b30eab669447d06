use Rattle.std.proofs.Common.{ℕ, ◌<◌, slice_index_or}
use Rattle.pipe_driver.specs.Driver.{Driver}
use Rattle.switch_net.specs.Driving.{HasStopped}
use Rattle.switch_net.proofs.serial.have_finished.Given as goal

-- the first pipes have stopped
abbrev pub invariant-loop-p : goal.invariant-loop-p
invariant-loop-p l = (k : ℕ) (d : Driver) → k < l.p → HasStopped (slice_index_or l.drivers k d).worker.pipe
