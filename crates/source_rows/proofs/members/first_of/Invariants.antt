-- none of the arrays so far is of the group
use Rattle.std.proofs.Common.{take}
use Rattle.domino_check.specs.Place.{NoneOf}
use Rattle.source_rows.proofs.members.first_of.Given as goal

abbrev pub invariant-loop-array : goal.invariant-loop-array
invariant-loop-array l = NoneOf l.of l.group (take l.array-index l.arrays)
