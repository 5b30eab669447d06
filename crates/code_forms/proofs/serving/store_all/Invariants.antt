use Rattle.std.proofs.Common.{◌≡◌, fold, take}
use Rattle.code_forms.specs.Spots.{spot_store}
use Rattle.code_forms.proofs.serving.store_all.Given as goal

abbrev pub invariant-loop-array : goal.invariant-loop-array
invariant-loop-array l = l.cells ≡ fold (spot_store l.spots l.env) l.fn.cells (take l.array-index l.arrays)
