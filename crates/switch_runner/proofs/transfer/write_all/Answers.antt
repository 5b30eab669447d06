use Rattle.std.proofs.Common.{arith}
use Rattle.std.proofs.lemmas.Result.{err_from_is_err_and}
use Rattle.switch_runner.proofs.TransferLemmas.{grew_more, stopped_more}
use Rattle.switch_runner.proofs.transfer.write_all.Goals as goal

pub loop-done-preserved : goal.loop-done-preserved
loop-done-preserved g c =
    let before = c.loop-done.invariant in
    let ok = c.in_ok-done.ensures in
    (omega arith, grew_more _ _ _ _ _ _ before.1 ok.ok)

pub returns-in_err-done-clause-err : goal.returns-in_err-done-clause-err
returns-in_err-done-clause-err g c =
    let p = err_from_is_err_and c.from_residual.result c.from_residual.ensures.1 in
    rw p.1 (stopped_more _ _ _ _ _ c.loop-done.invariant.1 c.in_err-done.ensures.err)
