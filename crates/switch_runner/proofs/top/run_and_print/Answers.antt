use Rattle.std.proofs.Common.{[], refl, sym, subst}
use Rattle.domino_compile.specs.Compiled.{IsCompiled, Translation}
use Rattle.report_text.specs.PlanLines.{plan_text}
use Rattle.report_text.specs.Report.{report}
use Rattle.command_line.specs.declared.request.Mode.{Mode}
use Rattle.switch_runner.specs.Causes.{IsReportText, IsTextOf}
use Rattle.switch_runner.specs.Top.{words_of}
use Rattle.switch_runner.proofs.CauseLemmas.{text_ends, text_ends_as}
use Rattle.switch_runner.proofs.top.run_and_print.Goals as goal

pub returns-in-One-clause-ends : goal.returns-in-One-clause-ends
returns-in-One-clause-ends g c =
    let now = c.args.compiled.now in
    let r = words_of c.args.request.now in
    let text = report now.program c.args.headers r.brief [] in
    text_ends (IsTextOf r.mode r now.program c.args.headers) c.run_in_order.result text _ _
    (subst (λ (m : Mode). IsTextOf m r now.program c.args.headers text) (sym c.in-One.is) refl) c.run_in_order.ensures

pub returns-in-Plan-clause-ends : goal.returns-in-Plan-clause-ends
returns-in-Plan-clause-ends g c =
    let now = c.args.compiled.now in
    let r = words_of c.args.request.now in
    let text = plan_text now.program now.code c.args.headers in
    text_ends (IsTextOf r.mode r now.program c.args.headers) c.print_code.result text _ _
    (subst (λ (m : Mode). IsTextOf m r now.program c.args.headers text) (sym c.in-Plan.is) (now.code, c.print_code.ensures.compiled, refl)) c.print_code.ensures.ends

pub returns-in-Serial-clause-ends : goal.returns-in-Serial-clause-ends
returns-in-Serial-clause-ends g c =
    let now = c.args.compiled.now in
    let r = words_of c.args.request.now in
    text_ends_as (IsReportText r now.program c.args.headers) (IsTextOf r.mode r now.program c.args.headers) c.run_in_turns.result _ _
    (λ text is. subst (λ (m : Mode). IsTextOf m r now.program c.args.headers text) (sym c.in-Serial.is) is) c.run_in_turns.ensures.ends

pub returns-in-Run-clause-ends : goal.returns-in-Run-clause-ends
returns-in-Run-clause-ends g c =
    let now = c.args.compiled.now in
    let r = words_of c.args.request.now in
    text_ends_as (IsReportText r now.program c.args.headers) (IsTextOf r.mode r now.program c.args.headers) c.run_on_threads.result _ _
    (λ text is. subst (λ (m : Mode). IsTextOf m r now.program c.args.headers text) (sym c.in-Run.is) is) c.run_on_threads.ensures.ends
