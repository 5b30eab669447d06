use Rattle.std.proofs.Common.{◌≤◌, length, get_or, refl, sym, subst, arith}
use Rattle.std.specs.Prelude.{All}
use Rattle.shard_rounds.specs.declared.plan.Plan.{Plan}
use Rattle.report_text.proofs.CellLemmas.{is-true}
use Rattle.report_text.proofs.ReportLemmas.{few-moves}
use Rattle.report_text.proofs.report.put_trace.Goals as goal

pub put_plan_line-requires-clause-few : goal.put_plan_line-requires-clause-few
put_plan_line-requires-clause-few c =
    let trace = c.requires.trace (is-true _ c.args.style.trace refl c.if-not-style.false) in
    subst (λ plans. All (λ (p : Plan). length p.moves.items ≤ 16) plans) (sym c.deref.ensures.value) (λ k d less.
    let few = few-moves (length c.args.code.now.groups) (get_or c.args.answer.now.plans.items k d).moves.items (trace.plans k d less) in
    omega (arith, few, c.groups.ensures.few))
