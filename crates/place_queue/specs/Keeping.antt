-- What a queue keeps beside its places: how many each source has, the least floor, and room.
use Rattle.std.specs.Prelude.{◌≡◌, ◌≤◌, ◌*◌, ◌<◌, ℕ, List, length, slice_index}
use Rattle.place_queue.specs.PlaceList.{PlaceList, IsPlaceList, IsLeast, count_of}

-- the counts, the least floor and the room are those of the queue
pub record Keeps (q : PlaceList) (waiting : List ℕ) (lowest capacity : ℕ) : Type 0 where
  pub laws : IsPlaceList q
  pub sized : length waiting ≡ q.sources
  pub counts : (s : ℕ) → s < q.sources → slice_index waiting s ≡ count_of q.unserved s
  pub least : IsLeast q.floors lowest
  pub room : q.sources * q.window ≤ capacity
