use Rattle.std.proofs.Common.{Some, ap}
use Rattle.compiled_run.proofs.AnswerLemmas.{compiled_answer, compiled_mark}
use Rattle.compiled_run.proofs.serial.run_serial.Goals as goal

pub returns-clause-answer : goal.returns-clause-answer
returns-clause-answer g c =
    compiled_answer _ c.args.compiled.now c.args.capture.now c.args.settings.now _ c.run_serial-ended.result.answer c.compiled.view_is c.compiled.invariant c.requires.wide c.in_ok-network.ensures c.run_serial-ended.ensures.ended.answer

pub returns-clause-run : goal.returns-clause-run
returns-clause-run g c =
    compiled_mark _ c.args.compiled.now c.args.capture.now c.args.settings.now _ c.run_serial-ended.result.answer c.compiled.view_is c.compiled.invariant c.requires.wide c.in_ok-network.ensures c.run_serial-ended.ensures.ended.answer
    (Some c.args.seed) (Some c.from.result) _ _ (ap Some c.from.ensures) c.run_serial-ended.ensures.run
