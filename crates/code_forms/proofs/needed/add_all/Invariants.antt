use Rattle.std.proofs.Common.{◌≡◌, ◌++◌, flat_map, take}
use Rattle.code_forms.specs.Staged.{operand_slots}
use Rattle.code_forms.proofs.needed.add_all.Given as goal

abbrev pub invariant-loop-operand : goal.invariant-loop-operand
invariant-loop-operand l = l.slots ≡ l.fn.slots ++ flat_map operand_slots (take l.operand-index l.operands)
