-- the workers of the first pipes
use Rattle.std.proofs.Common.{◌≡◌, ℕ, ◌<◌, length, slice_index_or, vec_len, vec_capacity}
use Rattle.switch_worker.specs.Worker.{Worker}
use Rattle.switch_net.specs.Building.{HasLanesFrom}
use Rattle.switch_net.proofs.building.workers.Given as goal

abbrev pub invariant-loop-number : goal.invariant-loop-number
invariant-loop-number l = record {
  each : (i : ℕ) (w : Worker) → i < length l.workers.items → HasLanesFrom l.run 0 0 0 i (slice_index_or l.workers.items i w);
  count : vec_len l.workers ≡ l.number;
  room : vec_capacity l.workers ≡ l.pipelines;
}
