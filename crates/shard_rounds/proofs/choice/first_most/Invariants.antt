use Rattle.shard_rounds.specs.Choice.{IsFirstMost}
use Rattle.std.proofs.Common.{slice_index}
use Rattle.shard_rounds.proofs.choice.first_most.Given as goal

-- the first of the totals so far that is greatest
abbrev pub invariant-loop-p : goal.invariant-loop-p
invariant-loop-p l = IsFirstMost l.p (slice_index l.totals) l.most
