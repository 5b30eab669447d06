-- the arrays so far, and those of the marks that are left
use Rattle.std.proofs.Common.{◌≡◌, ◌++◌, Bool, List, length, drop}
use Rattle.mp5_words.specs.Cells.{bits}
use Rattle.index_resolve.specs.Groups.{marked}
use Rattle.index_resolve.proofs.groups.arrays_of.Given as goal

abbrev pub invariant-loop-array : goal.invariant-loop-array
invariant-loop-array l = (marks : List Bool) → length marks ≡ 16 → l.set ≡ bits marks
    → (l.rest ≡ bits (drop l.array marks)) × (l.arrays.items ++ marked l.array (drop l.array marks) ≡ marked 0 marks)
