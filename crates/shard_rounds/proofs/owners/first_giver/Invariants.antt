use Rattle.std.proofs.Common.{◌≡◌, take, find, None}
use Rattle.shard_rounds.specs.Holding.{concerns}
use Rattle.shard_rounds.proofs.owners.first_giver.Given as goal

-- none of the moves before moves the unit
abbrev pub invariant-loop-m : goal.invariant-loop-m
invariant-loop-m l = find (concerns l.g l.u) (take l.m-index l.moves) ≡ None
