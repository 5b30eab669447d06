-- one slot more
use Rattle.std.proofs.Common.{◌∙◌, ◌++◌, ◌∷◌, [], sym}
use Rattle.code_forms.specs.declared.flat.Operand.TheVariants as operand
use Rattle.ssa_flatten.proofs.Starting.{slots_next}
use Rattle.ssa_flatten.proofs.pass.header_slots.Goals as goal

pub loop-k-preserved : goal.loop-k-preserved
loop-k-preserved c = c.in_ok-push.ensures.items ∙ (λ i. c.loop-k.invariant i ++ operand.Slot c.loop-k.k ∷ []) ∙ sym (slots_next c.loop-k.k)
