use Rattle.std.proofs.Common.{◌≡◌}
use Rattle.shard_rounds.specs.Holding.{first_row}
use Rattle.shard_rounds.proofs.owners.first_row.Given as goal

-- the owners of the first units
abbrev pub invariant-loop-u : goal.invariant-loop-u
invariant-loop-u l = l.row ≡ first_row l.pipelines l.g l.u
