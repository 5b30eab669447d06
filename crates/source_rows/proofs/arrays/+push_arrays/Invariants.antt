-- the arrays in the arguments so far
use Rattle.std.proofs.Common.{◌≡◌, ◌++◌, map, flat_map, take}
use Rattle.domino_check.specs.NumberedMeaning.{numbered_arrays}
use Rattle.source_rows.proofs.arrays.+push_arrays.Given as goal

abbrev pub invariant-push_all_arrays-loop-arg : goal.invariant-push_all_arrays-loop-arg
invariant-push_all_arrays-loop-arg l = l.out ≡ l.initial.out ++ flat_map (λ arrays. arrays) (map numbered_arrays (take l.arg-index l.args))
