use Rattle.std.proofs.Common.{◌≡◌, ◌+◌, ◌++◌, drop}
use Rattle.index_resolve.specs.HeaderSteps.{header_steps}
use Rattle.index_resolve.proofs.header.header_steps.Given as goal

abbrev pub invariant-loop-number : goal.invariant-loop-number
invariant-loop-number l = l.steps ++ header_steps l.clean (l.fields + l.number) (drop l.number l.instrs) ≡ header_steps l.clean l.fields l.instrs
