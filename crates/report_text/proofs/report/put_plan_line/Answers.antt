use Rattle.std.proofs.Common.{◌∙◌, ◌+◌, sym, ap, arith}
use Rattle.shard_rounds.specs.declared.plan.Plan.{Plan}
use Rattle.report_text.specs.AnswerLines.{moves_line}
use Rattle.report_text.proofs.ReportLemmas.{plan-count, plan-found}
use Rattle.report_text.proofs.report.put_plan_line.Goals as goal

pub returns-then-k-count-clause-line : goal.returns-then-k-count-clause-line
returns-then-k-count-clause-line c =
    let all = plan-count c.args.plans.now in
    (omega (arith, all, c.if-k-count.true), c.requires.empty)

pub returns-clause-line : goal.returns-clause-line
returns-clause-line c =
    plan-found 1 c.args.k (c.args.k + 1) c.args.plans.now c.index-plans-k.result c.put_plan.new.into.text (omega arith) (omega (arith, c.if-k-count.false)) c.index-plans-k.is
    (c.put_plan.ensures.text ∙ ap (moves_line (c.args.k + 1)) c.deref.ensures.value ∙ ap (λ (p : Plan). moves_line (c.args.k + 1) p.moves.items) (sym c.index-plans-k.is))
