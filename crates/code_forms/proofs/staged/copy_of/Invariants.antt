use Rattle.std.proofs.Common.{◌≡◌, take}
use Rattle.code_forms.proofs.staged.copy_of.Given as goal

abbrev pub invariant-loop-array : goal.invariant-loop-array
invariant-loop-array l = l.copy ≡ take l.array-index l.arrays
