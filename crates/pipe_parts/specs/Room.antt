-- Queues with reserved room.
use Rattle.std.specs.Prelude.{ℕ, ◌≤◌, List, length}
use Rattle.std.specs.List.{All}
use Rattle.std.specs.VecDeque.{deque_capacity}
use Rattle.std.specs.declared.collections.VecDeque.{VecDeque}

-- the queue has room for so many items, and no more are in it
pub record HasRoom {T A : Type 0} (most : ℕ) (queue : VecDeque T A) : Type 0 where
  pub room : most ≤ deque_capacity queue
  pub few : length queue.items ≤ most

-- so do all of them
pub record HaveRoom {T A : Type 0} (most : ℕ) (queues : List (VecDeque T A)) : Type 0 where
  pub small : most ≤ 4294967295
  pub each : All (HasRoom most) queues
