use Rattle.std.proofs.Common.{◌≡◌, map, take}
use Rattle.code_forms.specs.Needed.{numbered_step}
use Rattle.code_forms.proofs.steps.steps_of.Given as goal

abbrev pub invariant-loop-number : goal.invariant-loop-number
invariant-loop-number l = l.steps ≡ map (numbered_step l.fields l.instrs) (take l.number-index l.order)
