-- what the code keeps after the assignment is what the definition says, list by list
use Rattle.std.proofs.Common.{◌≡◌, ◌∙◌, refl, ap, slice_set, length, [], ◌∷◌, ◌++◌, arith}
use Rattle.std.proofs.lemmas.List.{with_items_is, length-set}
use Rattle.code_forms.specs.declared.flat.Operand.TheVariants as operand
use Rattle.ssa_flatten.specs.Flattening.{Code, operand_at, assigning}
use Rattle.ssa_flatten.specs.Views.{View, held}
use Rattle.ssa_flatten.proofs.ViewLemmas.{code_of, field_is_held}
use Rattle.ssa_flatten.proofs.sofar.Sofar.set_field.Goals as goal

-- src/sofar.rt:48:5
pub returns-clause-line : goal.returns-clause-line
returns-clause-line c s is =
    let h : View = held c.args.self.now in
    let code : Code = code_of c.args.value.now h in
    let word = c.in_ok-word.ensures in
    let slot = c.in_ok-slot.ensures in
    let last : c.assigning.result ≡ assigning c.args.guard (operand_at h.guards c.args.guard) code.result (operand_at h.fields c.args.field) = cc in
    let instrs : c.emit.new.out.instrs.items ≡ (h.instrs ++ code.instrs) ++ assigning c.args.guard (operand_at h.guards c.args.guard) code.result (operand_at h.fields c.args.field) ∷ [] = cc in
    let made : c.flat_expr.new.out.next ≡ code.next = cc in
    let fields : c.put.new.operands ≡ slice_set h.fields c.args.field (operand.Slot code.next) = cc in
    field_is_held c.args.header c.args.field c.args.guard c.args.value.now s h _ is instrs (omega (arith, made, slot.next)) (with_items_is c.args.self.now.fields c.put.new.operands (ap length c.put.ensures ∙ length-set c.deref_mut.result.now c.args.field c.in_ok-slot.slot ∙ c.deref_mut.ensures.len) ∙ fields) refl refl refl refl
