use Rattle.std.proofs.Common.{◌≡◌, map, take, length}
use Rattle.code_forms.specs.Staged.{operand_word}
use Rattle.code_forms.proofs.running.write_last.Given as goal

abbrev pub invariant-loop-k : goal.invariant-loop-k
invariant-loop-k l = (length l.fields ≡ length l.last) × (take l.k l.fields ≡ map (operand_word l.env) (take l.k l.last))
