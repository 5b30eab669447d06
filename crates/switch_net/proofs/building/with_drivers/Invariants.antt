-- the drivers of the first pipes
use Rattle.std.proofs.Common.{◌≡◌, ℕ, ◌<◌, [], length, slice_index_or, vec_len, vec_capacity}
use Rattle.pipe_driver.specs.Driver.{Driver}
use Rattle.switch_net.specs.Driving.{IsPipeOf}
use Rattle.switch_net.proofs.building.with_drivers.Given as goal

abbrev pub invariant-loop-worker : goal.invariant-loop-worker
invariant-loop-worker l = record {
  each : (p : ℕ) (d : Driver) → p < length l.drivers.items → IsPipeOf l.run [] p (slice_index_or l.drivers.items p d).worker.pipe;
  count : vec_len l.drivers ≡ length l.yielded;
  room : vec_capacity l.drivers ≡ length l.fn.workers.items;
}
