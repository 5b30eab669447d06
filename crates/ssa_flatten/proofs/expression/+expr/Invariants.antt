-- what is left of the arguments, behind the instructions so far, is what all of them are
use Rattle.std.proofs.Common.{◌≡◌, ◌+◌, ◌++◌, map, drop, sum}
use Rattle.code_forms.specs.GuardValid.{operators_in}
use Rattle.ssa_flatten.specs.Flattening.{flat, in_turn}
use Rattle.ssa_flatten.proofs.expression.+expr.Given as goal

abbrev pub invariant-flat_args-loop-arg : goal.invariant-flat_args-loop-arg
invariant-flat_args-loop-arg l = record {
  results : l.operands.items ++ (in_turn (map flat (drop l.arg-index l.args)) (record { fields = l.fields; copies = l.copies }) l.out.next).results ≡ (in_turn (map flat l.args) (record { fields = l.fields; copies = l.copies }) l.fn.out.next).results;
  instrs : l.out.instrs.items ++ (in_turn (map flat (drop l.arg-index l.args)) (record { fields = l.fields; copies = l.copies }) l.out.next).instrs ≡ l.fn.out.instrs.items ++ (in_turn (map flat l.args) (record { fields = l.fields; copies = l.copies }) l.fn.out.next).instrs;
  next : (in_turn (map flat (drop l.arg-index l.args)) (record { fields = l.fields; copies = l.copies }) l.out.next).next ≡ (in_turn (map flat l.args) (record { fields = l.fields; copies = l.copies }) l.fn.out.next).next;
  count : l.out.next + sum (map operators_in (drop l.arg-index l.args)) ≡ l.fn.out.next + sum (map operators_in l.args);
}
