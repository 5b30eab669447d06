-- the arrays so far are marked
use Rattle.std.proofs.Common.{◌≡◌, take}
use Rattle.mp5_words.specs.Cells.{touching}
use Rattle.domino_check.proofs.sites.mark_all.Given as goal

abbrev pub invariant-loop-array : goal.invariant-loop-array
invariant-loop-array l = l.touched ≡ touching (take l.array-index l.arrays) l.fn.touched
