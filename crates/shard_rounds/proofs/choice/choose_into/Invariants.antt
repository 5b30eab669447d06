use Rattle.std.proofs.Common.{◌≤◌, take}
use Rattle.shard_rounds.specs.Choice.{IsChoiceBelow}
use Rattle.shard_rounds.proofs.choice.choose_into.Given as goal

-- the moves of the groups so far
abbrev pub invariant-loop-g : goal.invariant-loop-g
invariant-loop-g l = record { few : l.count ≤ l.g; chosen : IsChoiceBelow l.loads l.owners l.g (take l.count l.room) }
