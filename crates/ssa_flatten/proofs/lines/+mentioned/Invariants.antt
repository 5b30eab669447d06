-- the arrays in what is left of the arguments, behind those so far, are the arrays in all of them
use Rattle.std.proofs.Common.{◌≡◌, ℕ, List, ◌++◌, drop, map, flat_map}
use Rattle.code_forms.specs.GuardValid.{arrays_in}
use Rattle.ssa_flatten.proofs.lines.+mentioned.Given as goal

abbrev pub invariant-mentioned_all-loop-arg : goal.invariant-mentioned_all-loop-arg
invariant-mentioned_all-loop-arg l =
    l.arrays.items ++ flat_map (λ (a : List ℕ). a) (map arrays_in (drop l.arg-index l.args)) ≡ l.fn.arrays.items ++ flat_map (λ (a : List ℕ). a) (map arrays_in l.args)
