-- the lines so far are done
use Rattle.std.proofs.Common.{drop}
use Rattle.ssa_flatten.specs.Views.{held}
use Rattle.ssa_flatten.proofs.Going.{Going}
use Rattle.ssa_flatten.proofs.pass.code_of.Given as goal

abbrev pub invariant-loop-line : goal.invariant-loop-line
invariant-loop-line l = Going l.code.fields l.code.arrays l.code.lines l.code.valid (held l.sofar) (drop l.line-index l.code.lines)
