use Rattle.pipe_stations.proofs.AnnounceLemmas.{RoomBelow}
use Rattle.pipe_stations.proofs.stations.Stations.has_room.Given as goal

-- there is room at the first groups
abbrev pub invariant-loop-g : goal.invariant-loop-g
invariant-loop-g l = RoomBelow l.self l.source l.given l.g
