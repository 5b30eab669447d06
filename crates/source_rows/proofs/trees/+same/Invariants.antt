-- the expressions so far are the same
use Rattle.std.proofs.Common.{◌≡◌, take}
use Rattle.source_rows.proofs.trees.+same.Given as goal

abbrev pub invariant-same_all-loop-i : goal.invariant-same_all-loop-i
invariant-same_all-loop-i l = take l.i l.a ≡ take l.i l.b
