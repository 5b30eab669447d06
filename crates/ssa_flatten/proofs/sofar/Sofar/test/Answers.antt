-- what the code keeps after the test is what the definition says, list by list
use Rattle.std.proofs.Common.{◌≡◌, ◌∙◌, suc, refl, ap, [], ◌∷◌, ◌++◌, append_assoc, arith}
use Rattle.code_forms.specs.declared.flat.Operand.TheVariants as operand
use Rattle.code_forms.specs.declared.flat.Instr.TheVariants as instr
use Rattle.ssa_flatten.specs.Flattening.{Code, flat, operand_at}
use Rattle.ssa_flatten.specs.Views.{View, held}
use Rattle.ssa_flatten.proofs.ViewLemmas.{code_of}
use Rattle.ssa_flatten.proofs.TouchViews.{test_is_held}
use Rattle.ssa_flatten.proofs.sofar.Sofar.test.Goals as goal

pub returns-clause-line : goal.returns-clause-line
returns-clause-line c header first second s is =
    let h : View = held c.args.self.now in
    let code : Code = code_of c.args.cond.now h in
    let word = c.in_ok-word.ensures in
    let yes_one = c.in_ok-first.ensures in
    let no_one = c.in_ok-second.ensures in
    let same : flat c.args.cond.now (record { fields = c.deref.result.now; copies = c.deref-2.result.now }) h.next ≡ code = (λ i. flat c.args.cond.now (record { fields = c.deref.ensures.value i; copies = c.deref-2.ensures.value i }) h.next) in
    let made : c.flat_expr.new.out.next ≡ code.next = word.next ∙ ap (λ (x : Code). x.next) same in
    let result = word.result ∙ ap (λ (x : Code). x.result) same in
    let on = c.operand_at-on.ensures ∙ ap (λ l. operand_at l c.args.under) c.deref-3.ensures.value in
    let instrs = no_one.instrs ∙ (λ i. yes_one.instrs i ++ instr.No (on i) (result i) ∷ [])
    ∙ append_assoc c.flat_expr.new.out.instrs.items (instr.Yes c.operand_at-on.result c.in_ok-word.word ∷ []) (instr.No (operand_at h.guards c.args.under) code.result ∷ [])
    ∙ (λ i. (word.instrs ∙ ap (λ (x : Code). h.instrs ++ x.instrs) same) i ++ (instr.Yes (on i) (result i) ∷ instr.No (operand_at h.guards c.args.under) code.result ∷ [])) in
    let behind : c.emit.new.out.next ≡ suc code.next = omega (arith, yes_one.next, made) in
    let one : c.in_ok-first.first ≡ operand.Slot code.next = yes_one.slot ∙ ap operand.Slot made in
    let other : c.in_ok-second.second ≡ operand.Slot (suc code.next) = no_one.slot ∙ ap operand.Slot behind in
    let guards = c.in_ok-push-2.ensures.items ∙ (λ i. c.in_ok-push.ensures.items i ++ other i ∷ [])
    ∙ append_assoc h.guards (c.in_ok-first.first ∷ []) (operand.Slot (suc code.next) ∷ []) ∙ (λ i. h.guards ++ (one i ∷ operand.Slot (suc code.next) ∷ [])) in
    test_is_held header c.args.under first second c.args.cond.now s h _ is instrs (omega (arith, behind, no_one.next)) guards refl refl refl refl
