-- the arrays so far are made
use Rattle.ssa_flatten.proofs.ArrayLists.{AreMade}
use Rattle.ssa_flatten.proofs.arrays.flat_arrays.Given as goal

abbrev pub invariant-loop-array : goal.invariant-loop-array
invariant-loop-array l = AreMade l.shapes l.touches l.array l.arrays.items
