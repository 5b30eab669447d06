use Rattle.shard_rounds.specs.Choice.{IsFirstLeast}
use Rattle.std.proofs.Common.{slice_index}
use Rattle.shard_rounds.proofs.choice.first_least.Given as goal

-- the first of the totals so far that is least
abbrev pub invariant-loop-p : goal.invariant-loop-p
invariant-loop-p l = IsFirstLeast l.p (slice_index l.totals) l.least
