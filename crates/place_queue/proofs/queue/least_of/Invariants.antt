use Rattle.std.proofs.Common.{◌≤◌, ◌<◌, ◌≡◌, ℕ, length, slice_index}
use Rattle.place_queue.proofs.queue.least_of.Given as goal

-- the least so far is a floor, and none before is less
abbrev pub invariant-loop-floor : goal.invariant-loop-floor
invariant-loop-floor l = ((i : ℕ) × (i < length l.floors) × (slice_index l.floors i ≡ l.least)) × ((i : ℕ) → i < l.floor-index → l.least ≤ slice_index l.floors i)
