use Rattle.std.proofs.Common.{take}
use Rattle.std.specs.List.{All}
use Rattle.pipe_stations.specs.RowSteps.{FloorsAreFrom}
use Rattle.pipe_stations.proofs.stations.Stations.floors_reach.Given as goal

-- so it is at the first stations
abbrev pub invariant-loop-station : goal.invariant-loop-station
invariant-loop-station l = All (FloorsAreFrom l.end) (take l.station-index l.self.stations)
