use Rattle.std.proofs.Common.{◌≡◌, take, replicate, false}
use Rattle.mp5_words.specs.Cells.{bits, touching}
use Rattle.code_forms.proofs.serving.set_of_arrays.Given as goal

abbrev pub invariant-loop-array : goal.invariant-loop-array
invariant-loop-array l = (l.set ≡ bits l.marks) × (l.marks ≡ touching (take l.array-index l.arrays) (replicate 16 false))
