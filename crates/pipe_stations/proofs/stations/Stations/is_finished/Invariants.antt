use Rattle.std.proofs.Common.{take}
use Rattle.std.specs.List.{All}
use Rattle.pipe_stations.specs.RowSteps.{IsStationFinished}
use Rattle.pipe_stations.proofs.stations.Stations.is_finished.Given as goal

-- so it is at the first stations
abbrev pub invariant-loop-station : goal.invariant-loop-station
invariant-loop-station l = All IsStationFinished (take l.station-index l.self.stations)
