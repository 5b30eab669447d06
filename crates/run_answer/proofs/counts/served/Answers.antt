use Rattle.std.proofs.Common.{◌≡◌, ◌+◌, ap, subst, arith, add-one}
use Rattle.run_laws.specs.Run.{arrivals}
use Rattle.switch_worker.specs.Worker.{Worker}
use Rattle.switch_worker.specs.Finished.{IsFinished}
use Rattle.group_station.proofs.LawLemmas.{counted_few}
use Rattle.run_answer.proofs.CountsLemmas.{ServedBelow, served_none, served_all, finished_at, width_is, count_more, count_fits}
use Rattle.run_answer.proofs.counts.served.Goals as goal

pub loop-worker-init : goal.loop-worker-init
loop-worker-init c = served_none c.args.run.now c.args.g c.args.u (arrivals c.args.run.now)

pub count-count-requires-clause-unit : goal.count-count-requires-clause-unit
count-count-requires-clause-unit c =
    let finished : IsFinished c.args.run.now c.loop-worker.worker-index c.worker.inside.pipe =
    finished_at c.args.run.now c.args.workers.now c.loop-worker.worker-index c.worker-item.result c.worker.inside.pipe c.requires.finished c.loop-worker-test.true c.worker-item.is (ap (λ (w : Worker). w.pipe) c.worker.view_is) in
    let wide = width_is c.args.run.now c.loop-worker.worker-index c.args.g c.worker.inside.pipe finished finished.laws c.requires.group in
    omega (arith, wide, c.requires.unit)

pub overflow_add-count : goal.overflow_add-count
overflow_add-count c =
    let finished : IsFinished c.args.run.now c.loop-worker.worker-index c.worker.inside.pipe =
    finished_at c.args.run.now c.args.workers.now c.loop-worker.worker-index c.worker-item.result c.worker.inside.pipe c.requires.finished c.loop-worker-test.true c.worker-item.is (ap (λ (w : Worker). w.pipe) c.worker.view_is) in
    let more = count_more c.args.run.now c.loop-worker.worker-index c.args.g c.args.u c.loop-worker.count c.count-count.result c.worker.inside.pipe finished c.count-count.ensures.laws c.count-count.ensures.station c.requires.group c.requires.unit c.count-count.ensures.count c.loop-worker.invariant in
    let few = counted_few _ (arrivals c.args.run.now) (c.loop-worker.count + c.count-count.result) more in
    let limit = count_fits c.args.run.now c.loop-worker.worker-index c.args.g c.worker.inside.pipe finished c.count-count.ensures.laws c.count-count.ensures.station c.requires.group in
    omega (arith, few, limit)

pub loop-worker-preserved : goal.loop-worker-preserved
loop-worker-preserved c =
    let finished : IsFinished c.args.run.now c.loop-worker.worker-index c.worker.inside.pipe =
    finished_at c.args.run.now c.args.workers.now c.loop-worker.worker-index c.worker-item.result c.worker.inside.pipe c.requires.finished c.loop-worker-test.true c.worker-item.is (ap (λ (w : Worker). w.pipe) c.worker.view_is) in
    rw add-one (count_more c.args.run.now c.loop-worker.worker-index c.args.g c.args.u c.loop-worker.count c.count-count.result c.worker.inside.pipe finished c.count-count.ensures.laws c.count-count.ensures.station c.requires.group c.requires.unit c.count-count.ensures.count c.loop-worker.invariant)

pub returns : goal.returns
returns c =
    let all : c.loop-worker.worker-index ≡ c.args.run.now.settings.pipelines = omega (arith, c.requires.finished.count) in
    served_all c.args.run.now c.requires.plans.0 c.args.g c.args.u (arrivals c.args.run.now) c.loop-worker.count c.requires.plans.1 (omega arith)
    (subst (λ p. ServedBelow c.args.run.now c.args.g c.args.u p (arrivals c.args.run.now) c.loop-worker.count) all c.loop-worker.invariant)
