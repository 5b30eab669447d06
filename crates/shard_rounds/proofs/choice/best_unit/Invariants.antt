use Rattle.shard_rounds.proofs.Choosing.{BestBelow}
use Rattle.shard_rounds.proofs.choice.best_unit.Given as goal

-- the best of the units so far
abbrev pub invariant-loop-u : goal.invariant-loop-u
invariant-loop-u l = BestBelow l.owners l.loads l.giver l.gap l.u l.most l.best
