use Rattle.shard_rounds.proofs.Choosing.{TotalsAre}
use Rattle.shard_rounds.proofs.choice.totals_of.Given as goal

-- the totals over the units so far
abbrev pub invariant-loop-u : goal.invariant-loop-u
invariant-loop-u l = TotalsAre l.totals l.owners l.loads l.u
