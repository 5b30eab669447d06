use Rattle.std.proofs.Common.{◌≡◌, length}
use Rattle.pipe_stations.proofs.AnnounceLemmas.{GivenBelow}
use Rattle.pipe_stations.proofs.stations.Stations.given.Given as goal

-- the units that are given at the first groups
abbrev pub invariant-loop-g : goal.invariant-loop-g
invariant-loop-g l = record {
  long : length l.given ≡ 16;
  units : GivenBelow l.self l.t l.given l.g;
}
