-- so many so far, none of them touched
use Rattle.std.proofs.Common.{◌≡◌, replicate}
use Rattle.ssa_flatten.specs.Views.{no_array}
use Rattle.ssa_flatten.proofs.arrays.untouched.Given as goal

abbrev pub invariant-loop : goal.invariant-loop
invariant-loop l = l.touches.items ≡ replicate l.counter no_array
