use Rattle.std.proofs.Common.{◌≡◌, vec_len, vec_capacity}
use Rattle.place_queue.specs.PlaceList.{first_floors}
use Rattle.place_queue.proofs.queue.Places.new.Given as goal

-- the floors of the first sources
abbrev pub invariant-loop-source : goal.invariant-loop-source
invariant-loop-source l = record { floors : l.floors.items ≡ first_floors l.source l.arrivals; len : vec_len l.floors ≡ l.source; room : vec_capacity l.floors ≡ l.sources }
