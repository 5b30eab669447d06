use Rattle.std.proofs.Common.{◌≡◌, take}
use Rattle.shard_rounds.specs.Holding.{moved_rows}
use Rattle.shard_rounds.proofs.owners.move_units.Given as goal

-- the rows after the first moves
abbrev pub invariant-loop-m : goal.invariant-loop-m
invariant-loop-m l = l.rows ≡ moved_rows l.initial.rows (take l.m-index l.moves)
