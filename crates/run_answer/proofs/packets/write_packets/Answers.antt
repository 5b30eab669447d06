use Rattle.std.proofs.Common.{sym, subst, arith}
use Rattle.switch_worker.specs.Worker.{Worker}
use Rattle.switch_worker.specs.Finished.{IsFinished}
use Rattle.run_answer.proofs.PacketsLemmas.{written_none, written_step, written_all}
use Rattle.run_answer.proofs.packets.write_packets.Goals as goal

pub loop-worker-init : goal.loop-worker-init
loop-worker-init c = written_none c.args.run.now c.args.packets.now c.requires.size

pub loop-worker-preserved : goal.loop-worker-preserved
loop-worker-preserved c =
    let done : IsFinished c.args.run.now c.loop-worker.worker-index c.worker-item.result.pipe = subst (λ (w : Worker). IsFinished c.args.run.now c.loop-worker.worker-index w.pipe) (sym c.worker-item.is)
    (c.requires.finished.each c.loop-worker.worker-index c.worker-item.result c.loop-worker-test.true) in
    written_step c.args.run.now c.loop-worker.worker-index c.worker-item.result.pipe c.exit_of.result.now c.loop-worker.packets c.merge.new.into done c.exit_of.ensures.laws c.exit_of.ensures.exit c.exit_of.ensures.counts
    c.loop-worker.invariant c.merge.ensures

pub returns : goal.returns
returns c =
    let all = c.requires.finished.count in
    let most = c.loop-worker.auto.worker-index-end in
    written_all c.args.run.now c.loop-worker.packets c.loop-worker.worker-index (omega arith) c.loop-worker.invariant
