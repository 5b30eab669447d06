use Rattle.std.proofs.Common.{ℕ, ◌<◌}
use Rattle.place_queue.specs.declared.place.Place.{Place}
use Rattle.pipe_parts.specs.declared.packet.Packet.{Packet}
use Rattle.pipe_worker.specs.Events.{CanServe}
use Rattle.pipe_worker.proofs.pipe.Pipe.next_service.Given as goal

-- no place of the first groups can be served
abbrev pub invariant-loop-g : goal.invariant-loop-g
invariant-loop-g l = (g : ℕ) (place : Place) (p : Packet) → g < l.g → CanServe l.self g place p → ⊥
