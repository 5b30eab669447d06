use Rattle.std.proofs.Common.{◌≡◌, ℕ, if◌then◌else◌, flat_map, take, replicate}
use Rattle.code_forms.specs.FlatMeaning.{flat_length}
use Rattle.code_forms.specs.StagedMeaning.{start_of}
use Rattle.code_forms.proofs.unit.cells_of.Given as goal

abbrev pub invariant-loop-array : goal.invariant-loop-array
invariant-loop-array l = l.cells ≡ flat_map (λ (a : ℕ). replicate (if l.sharded then 1 else flat_length l.flat a) (start_of l.flat a)) (take l.array-index l.arrays)
