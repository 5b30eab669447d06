use Rattle.std.proofs.Common.{◌≡◌, take, None}
use Rattle.group_station.specs.Steps.{move_in}
use Rattle.group_station.proofs.station.move_in.Given as goal

-- none of the moves before is of the group
abbrev pub invariant-loop-found : goal.invariant-loop-found
invariant-loop-found l = move_in l.group (take l.found-index l.moves) ≡ None
