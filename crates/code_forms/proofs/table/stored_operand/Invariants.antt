use Rattle.std.proofs.Common.{◌≡◌, drop}
use Rattle.code_forms.specs.Staged.{stored_operand}
use Rattle.code_forms.proofs.table.stored_operand.Given as goal

abbrev pub invariant-loop-instr : goal.invariant-loop-instr
invariant-loop-instr l = stored_operand (drop l.instr-index l.instrs) l.array ≡ stored_operand l.instrs l.array
