use Rattle.std.proofs.Common.{◌≡◌, true, refl, sym, subst}
use Rattle.domino_compile.specs.Compiled.{IsCompiled, Translation}
use Rattle.report_text.specs.declared.report.Style.{Style}
use Rattle.report_text.specs.AnswerLines.{answer_lines}
use Rattle.report_text.specs.Report.{text_of}
use Rattle.report_text.specs.Told.{HasTrace, IsOfProgram}
use Rattle.switch_net.specs.Answer.{moves_of}
use Rattle.switch_runner.specs.Causes.{IsReportText}
use Rattle.switch_runner.specs.Top.{Ends, words_of}
use Rattle.switch_runner.proofs.CauseLemmas.{text_ends}
use Rattle.switch_runner.proofs.NetworkLemmas.{answer_is_of, answer_has, answer_told}
use Rattle.switch_runner.proofs.top.print_answer.Goals as goal

pub print_report-requires-clause-program : goal.print_report-requires-clause-program
print_report-requires-clause-program g c =
    answer_is_of _ c.args.compiled.now c.compiled.view_is c.compiled.invariant c.args.headers.now c.requires.wide c.args.request.now.settings c.args.answer.now c.requires.answer

pub print_report-requires-clause-trace : goal.print_report-requires-clause-trace
print_report-requires-clause-trace g c traced =
    answer_has _ c.args.compiled.now c.compiled.view_is c.compiled.invariant c.args.headers.now c.requires.wide c.args.request.now.settings c.args.answer.now c.requires.answer

pub returns-clause-ends : goal.returns-clause-ends
returns-clause-ends g c =
    let now = c.args.compiled.now in
    let compiled : IsCompiled now.program now.code = subst (λ (t : Translation). IsCompiled t.program t.code) c.compiled.view_is c.compiled.invariant in
    let style : Style = record { trace = c.args.request.now.trace; brief = c.args.request.now.brief } in
    text_ends (IsReportText (words_of c.args.request.now) now.program c.args.headers.now) c.print_report.result (text_of (answer_lines now.program now.code c.args.answer.now style)) _ _
    (record {
      code = now.code;
      settings = c.args.request.now.settings;
      plans = moves_of c.args.answer.now.plans.items;
      compiled = compiled;
      numbers = refl;
      lawful = c.requires.answer.plans;
      is = answer_told _ now c.compiled.view_is c.compiled.invariant c.args.headers.now c.requires.wide c.args.request.now.settings c.args.answer.now style c.requires.answer;
    })
    (subst (λ (t : Translation). Ends (text_of (answer_lines t.program t.code c.args.answer.now style)) (g.K.Sink.seen c.args.out.now) (g.K.Sink.seen c.print_report.new.out) c.print_report.result) c.compiled.view_is
    c.print_report.ensures)

pub returns-clause-compiled : goal.returns-clause-compiled
returns-clause-compiled g c = subst (λ (t : Translation). IsCompiled t.program t.code) c.compiled.view_is c.compiled.invariant
