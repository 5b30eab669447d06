use Rattle.std.proofs.Common.{rules, subst}
use Rattle.pipe_worker.specs.Pipe.{Pipe}
use Rattle.switch_net.specs.Driving.{HasStopped}
use Rattle.switch_net.proofs.MoveLemmas.{stopped_more}
use Rattle.switch_net.proofs.serial.have_finished.Goals as goal

pub loop-p-preserved : goal.loop-p-preserved
loop-p-preserved c =
    let stopped : HasStopped c.index-drivers-p.result.worker.pipe = subst (λ (s : Pipe). HasStopped s) c.pipe.ensures.pipe (search rules) in
    stopped_more c.args.drivers.now c.loop-p.p c.index-drivers-p.result (search rules) c.index-drivers-p.is stopped c.loop-p.invariant
