use Rattle.std.proofs.lemmas.Result.{err_from_is_err_and, IfErr-weaker, IfOk-weaker}
use Rattle.switch_runner.proofs.WritingLemmas.{grew_flushed, stopped_flushed, stopped_put}
use Rattle.switch_runner.proofs.report.write_report.Goals as goal

pub returns-in_err-put_lines-clause-err : goal.returns-in_err-put_lines-clause-err
returns-in_err-put_lines-clause-err g c =
    let p = err_from_is_err_and c.from_residual.result c.from_residual.ensures.1 in
    rw p.1 (stopped_put _ _ _ _ _ c.requires.empty c.in_err-put_lines.ensures)

pub returns-clause-ok : goal.returns-clause-ok
returns-clause-ok g c =
    IfOk-weaker c.flush.result _ _ (λ _ grew. grew_flushed _ _ _ _ _ _ c.requires.empty c.in_ok-put_lines.ensures grew) c.flush.ensures.ok

pub returns-clause-err : goal.returns-clause-err
returns-clause-err g c =
    IfErr-weaker c.flush.result _ _ (λ _ stopped. stopped_flushed _ _ _ _ _ _ c.requires.empty c.in_ok-put_lines.ensures stopped) c.flush.ensures.err
