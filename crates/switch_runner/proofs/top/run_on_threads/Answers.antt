use Rattle.std.proofs.Common.{rules, refl}
use Rattle.command_line.specs.declared.request.Mode.TheVariants.{Run}
use Rattle.switch_runner.specs.Causes.{IsReportText}
use Rattle.switch_runner.specs.Networks.{RanOn}
use Rattle.switch_runner.specs.Top.{words_of}
use Rattle.switch_runner.proofs.CauseLemmas.{ran_ended}
use Rattle.switch_runner.proofs.TopLemmas.{all_wide}
use Rattle.switch_runner.proofs.top.run_on_threads.Goals as goal

pub run-answer-requires : goal.run-answer-requires
run-answer-requires g c = (search rules, (search rules, all_wide _ c.args.headers.now c.requires))

pub returns-in-Ok-clause-ran : goal.returns-in-Ok-clause-ran
returns-in-Ok-clause-ran g c =
    let now = c.args.compiled.now in
    ran_ended (RanOn Run (words_of c.args.request.now).numbers now.program c.args.headers.now) c.print_answer.result (IsReportText (words_of c.args.request.now) now.program c.args.headers.now) _ _ _ _ c.print_answer.ensures.ends
    (record { code = now.code; settings = c.args.request.now.settings; compiled = c.print_answer.ensures.compiled; numbers = refl; ran = c.in-Ok.ensures.run })
