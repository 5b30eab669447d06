-- what the code keeps after the assignment is what the definition says, list by list
use Rattle.std.proofs.Common.{◌≡◌, ◌∙◌, refl, ap, ◌-◌, slice_set, length, get_or, None, [], ◌∷◌, ◌++◌, arith}
use Rattle.std.proofs.lemmas.List.{with_items_is, length-set}
use Rattle.code_forms.specs.declared.flat.Operand.TheVariants as operand
use Rattle.ssa_flatten.specs.Flattening.{Code, flat, operand_at, copy_operand, assigning}
use Rattle.ssa_flatten.specs.Views.{View, held, renewed, no_array, with_copy}
use Rattle.ssa_flatten.proofs.ViewLemmas.{code_of, cell_is_held}
use Rattle.ssa_flatten.proofs.TouchViews.{copy_added}
use Rattle.ssa_flatten.proofs.sofar.Sofar.set_cell.Goals as goal

-- src/sofar.rt:92:5
pub returns-clause-line : goal.returns-clause-line
returns-clause-line c s is =
    let h : View = held c.args.self.now in
    let code : Code = code_of c.args.value.now h in
    let word = c.in_ok-word.ensures in
    let slot = c.in_ok-slot.ensures in
    let same : flat c.args.value.now (record { fields = c.deref.result.now; copies = c.deref-2.result.now }) h.next ≡ code = (λ i. flat c.args.value.now (record { fields = c.deref.ensures.value i; copies = c.deref-2.ensures.value i }) h.next) in
    let made : c.flat_expr.new.out.next ≡ code.next = word.next ∙ ap (λ (x : Code). x.next) same in
    let result = word.result ∙ ap (λ (x : Code). x.result) same in
    let on = c.operand_at-on.ensures ∙ ap (λ l. operand_at l c.args.guard) c.deref-3.ensures.value in
    let old = c.copy_at-old.ensures ∙ ap (λ l. copy_operand (get_or l c.args.array None)) c.deref-4.ensures.value in
    let last = c.assigning.ensures ∙ (λ i. assigning c.args.guard (on i) (result i) (old i)) in
    let instrs = slot.instrs ∙ (λ i. (word.instrs ∙ ap (λ (x : Code). h.instrs ++ x.instrs) same) i ++ last i ∷ []) in
    let place : c.in_ok-slot.slot ≡ operand.Slot code.next = slot.slot ∙ ap operand.Slot made in
    let copies = c.renew.ensures ∙ (λ i. slice_set (c.deref_mut.ensures.value i) c.args.array (renewed (place i) (get_or (c.deref_mut.ensures.value i) c.args.array None))) in
    let number = c.in_ok-add_copy.ensures ∙ (λ i. slice_set (c.deref_mut-2.ensures.value i) c.args.array (with_copy (get_or (c.deref_mut-2.ensures.value i) c.args.array no_array) (made i - c.args.header))) in
    let both = copy_added c.args.self.now.arrays.items _ c.args.array (code.next - c.args.header) (with_items_is c.args.self.now.arrays c.add_copy.new.arrays (ap length c.in_ok-add_copy.ensures ∙ length-set c.deref_mut-2.result.now c.args.array _ ∙ c.deref_mut-2.ensures.len) ∙ number) in
    cell_is_held c.args.header c.args.array c.args.guard c.args.value.now s h _ is instrs (omega (arith, made, slot.next))
    (with_items_is c.args.self.now.copies c.renew.new.copies (ap length c.renew.ensures ∙ length-set c.deref_mut.result.now c.args.array _ ∙ c.deref_mut.ensures.len) ∙ copies)
    both.0
    refl refl both.1
