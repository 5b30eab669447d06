use Rattle.std.proofs.Common.{◌≡◌, fold, take, replicate, false}
use Rattle.mp5_words.specs.Cells.{bits}
use Rattle.code_forms.specs.Spots.{mark_open}
use Rattle.code_forms.proofs.serving.touched_set.Given as goal

abbrev pub invariant-loop-array : goal.invariant-loop-array
invariant-loop-array l = (l.set ≡ bits l.marks) × (l.marks ≡ fold (mark_open l.flat l.env) (replicate 16 false) (take l.array-index l.arrays))
