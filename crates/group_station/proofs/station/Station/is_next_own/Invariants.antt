use Rattle.group_station.proofs.TakeLemmas.{NoneOwned}
use Rattle.group_station.proofs.station.Station.is_next_own.Given as goal

-- no round so far is an own one
abbrev pub invariant-loop-d : goal.invariant-loop-d
invariant-loop-d l = NoneOwned l.self l.u l.d
