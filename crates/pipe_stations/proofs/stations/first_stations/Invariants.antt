use Rattle.std.proofs.Common.{◌≡◌, vec_len, vec_capacity}
use Rattle.run_laws.specs.Run.{run_of}
use Rattle.pipe_stations.specs.Row.{first_stations}
use Rattle.pipe_stations.proofs.stations.first_stations.Given as goal

-- the stations of the first groups
abbrev pub invariant-loop-g : goal.invariant-loop-g
invariant-loop-g l = record {
  stations : l.stations.items ≡ first_stations (run_of l.code l.capture l.settings) l.pipe l.g;
  count : vec_len l.stations ≡ l.g;
  room : vec_capacity l.stations ≡ l.groups;
}
