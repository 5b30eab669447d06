-- neither an array before nor this one has the index
use Rattle.std.proofs.Common.{◌≢◌, ◌<◌, ◌∙◌, false, inl, inr, sym, ap, length, arith}
use Rattle.std.specs.Bool.{IsTrue}
use Rattle.std.proofs.lemmas.Bool.Decides.{eqb_tells}
use Rattle.code_forms.specs.GuardMeaning.{index_at}
use Rattle.ssa_flatten.proofs.Unloaded.{index_of}
use Rattle.ssa_flatten.proofs.same.least_same.Goals as goal

no_way : IsTrue false → ⊥
no_way e = cc

pub loop-i-preserved : goal.loop-i-preserved
loop-i-preserved c b less e =
    let there : c.loop-i.i < length c.args.shapes.now = omega (arith, c.loop-i-test.true, c.requires) in
    elim (eqb_tells b c.loop-i.i) [
      | inl same ↦ no_way (c.if-has_index.ensures.1 (sym (index_of c.args.shapes.now c.loop-i.i c.index-shapes-i.result there c.index-shapes-i.is) ∙ ap (index_at c.args.shapes.now) (sym same.1) ∙ e))
      | inr apart ↦ (let other : b ≢ c.loop-i.i = apart.1 in c.loop-i.invariant b (omega (arith, less, other)) e)
    ]
