use Rattle.std.proofs.Common.{◌≡◌, List, ◌∷◌, length, All, subst, sym, ◌∙◌, rules}
use Rattle.switch_worker.specs.Worker.{Worker}
use Rattle.pipe_stations.specs.RowSteps.{IsStationFinished}
use Rattle.switch_net.proofs.MoveLemmas.{AreMoved, IsEndedAt, IsStoppedAt, is_ended, front_of, left_front, moved_more}
use Rattle.switch_net.proofs.network.workers_of.Goals as goal

pub loop-workers-preserved : goal.loop-workers-preserved
loop-workers-preserved c =
    let run = c.args.run.now in
    let drivers = c.loop-workers.drivers.items in
    let workers = c.loop-workers.workers.items in
    let front : drivers ≡ c.remove.result ∷ c.remove.new.self.items = front_of drivers c.remove.new.self.items c.remove.result (search rules) c.remove.ensures.value c.remove.ensures.items in
    let stopped : IsStoppedAt run (length workers) c.remove.result = left_front run drivers c.remove.new.self.items workers c.remove.result c.loop-workers.invariant.moved front in
    let ended : IsEndedAt run (length workers) c.into_worker.result =
    is_ended run (length workers) c.remove.result c.into_worker.result stopped c.into_worker.ensures.worker c.into_worker.ensures.ends (c.into_worker.ensures.heard (subst (λ (w : Worker). All IsStationFinished w.pipe.row.stations) (sym c.into_worker.ensures.worker) stopped.stopped.stations)) in
    record {
      moved = subst (λ (ws : List Worker). AreMoved run c.remove.new.self.items ws) (sym c.push_reserved.ensures.items) (moved_more run drivers c.remove.new.self.items workers c.remove.result c.into_worker.result c.loop-workers.invariant.moved front ended);
      room = c.push_reserved.ensures.capacity ∙ c.loop-workers.invariant.room;
    }
