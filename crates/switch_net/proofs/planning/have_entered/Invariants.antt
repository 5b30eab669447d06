use Rattle.std.proofs.Common.{ℕ, ◌<◌, slice_index_or}
use Rattle.pipe_driver.specs.Driver.{Driver}
use Rattle.switch_net.specs.Driving.{HaveEntered}
use Rattle.switch_net.proofs.planning.have_entered.Given as goal

-- those of the first pipes have entered
abbrev pub invariant-loop-i : goal.invariant-loop-i
invariant-loop-i l = (k : ℕ) (d : Driver) → k < l.i → HaveEntered (slice_index_or l.drivers k d).worker.pipe l.end
