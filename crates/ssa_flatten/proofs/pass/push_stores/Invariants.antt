-- the stores that are left, behind those so far, are all of them
use Rattle.std.proofs.Common.{◌≡◌, ◌++◌, drop}
use Rattle.ssa_flatten.specs.Views.{stores_of}
use Rattle.ssa_flatten.proofs.pass.push_stores.Given as goal

abbrev pub invariant-loop-array : goal.invariant-loop-array
invariant-loop-array l = l.instrs.items ++ stores_of l.array (drop l.array l.copies) ≡ l.fn.instrs.items ++ stores_of 0 l.copies
