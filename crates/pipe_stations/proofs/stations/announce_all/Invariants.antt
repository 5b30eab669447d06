use Rattle.pipe_stations.proofs.AnnounceLemmas.{HeardBelow}
use Rattle.pipe_stations.proofs.stations.announce_all.Given as goal

-- the first stations heard of it
abbrev pub invariant-loop-g : goal.invariant-loop-g
invariant-loop-g l = HeardBelow l.initial.stations l.stations l.source l.t l.given l.g
