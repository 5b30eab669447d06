use Rattle.std.proofs.Common.{◌≡◌, ℕ, take, false}
use Rattle.std.specs.List.{list_any}
use Rattle.code_forms.specs.Staged.{guards_of}
use Rattle.code_forms.specs.StagedMeaning.{is_open}
use Rattle.code_forms.proofs.places.some_touched.Given as goal

abbrev pub invariant-loop-array : goal.invariant-loop-array
invariant-loop-array l = list_any (λ (a : ℕ). is_open l.room (guards_of l.flat a)) (take l.array-index l.arrays) ≡ false
