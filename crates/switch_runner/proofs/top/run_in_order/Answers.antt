use Rattle.std.proofs.Common.{ℕ, List, length, false, refl, sym, subst}
use Rattle.domino_compile.specs.Compiled.{Translation}
use Rattle.report_text.specs.declared.report.Style.{Style}
use Rattle.report_text.specs.AnswerLines.{answer_lines}
use Rattle.report_text.specs.Report.{text_of}
use Rattle.switch_runner.specs.Top.{AreWide, Ends}
use Rattle.switch_runner.proofs.NetworkLemmas.{end_is_of, end_told}
use Rattle.switch_runner.proofs.top.run_in_order.Goals as goal

pub run_one-requires : goal.run_one-requires
run_one-requires g c = subst (λ (t : Translation). AreWide (length t.program.packet.fields) c.args.headers) (sym c.compiled.view_is) c.requires

pub print_report-requires-clause-program : goal.print_report-requires-clause-program
print_report-requires-clause-program g c =
    end_is_of _ c.args.compiled.now c.compiled.view_is c.compiled.invariant c.args.headers c.requires c.in-Ok.answer c.in-Ok.ensures

pub returns-in-Ok : goal.returns-in-Ok
returns-in-Ok g c =
    let style : Style = record { trace = false; brief = c.args.brief } in
    subst (λ (l : List ℕ). Ends l (g.K.Sink.seen c.args.out.now) (g.K.Sink.seen c.print_report.new.out) c.print_report.result)
    (end_told _ c.args.compiled.now c.compiled.view_is c.compiled.invariant c.args.headers c.requires c.in-Ok.answer c.in-Ok.ensures style refl)
    (subst (λ (t : Translation). Ends (text_of (answer_lines t.program t.code c.in-Ok.answer style)) (g.K.Sink.seen c.args.out.now) (g.K.Sink.seen c.print_report.new.out) c.print_report.result) c.compiled.view_is
    c.print_report.ensures)
