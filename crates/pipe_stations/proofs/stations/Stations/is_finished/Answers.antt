use Rattle.std.proofs.Common.{◌≡◌, ◌-◌, ◌/◌, ◌∙◌, length, refl, ap, subst, arith, take_all}
use Rattle.std.specs.List.{All}
use Rattle.std.proofs.lemmas.List.Elements.{All-more}
use Rattle.run_laws.specs.Run.{arrivals, last_round}
use Rattle.pipe_stations.specs.Row.{Row}
use Rattle.pipe_stations.specs.RowSteps.{IsStationFinished}
use Rattle.pipe_stations.proofs.RowLemmas.{run_read, read_there}
use Rattle.pipe_stations.proofs.stations.Stations.is_finished.Goals as goal

pub is_finished-requires-clause-count : goal.is_finished-requires-clause-count
is_finished-requires-clause-count c =
    let run = run_read _ _ c.self.view_is c.deref-station-items.result.now c.loop-station.station-index c.station-item.result c.deref-station-items.ensures.value c.station-item.is c.loop-station-test.true c.self.invariant in
    c.count-arrivals.ensures.count ∙ ap arrivals run

pub is_finished-requires-clause-last : goal.is_finished-requires-clause-last
is_finished-requires-clause-last c =
    let run = run_read _ _ c.self.view_is c.deref-station-items.result.now c.loop-station.station-index c.station-item.result c.deref-station-items.ensures.value c.station-item.is c.loop-station-test.true c.self.invariant in
    ap (λ n. n / c.self.inside.settings.round) (c.saturating_sub.ensures ∙ ap (λ n. n - 1) c.count-arrivals.ensures.count) ∙ ap last_round run

pub loop-station-preserved : goal.loop-station-preserved
loop-station-preserved c =
    let there = read_there _ _ c.self.view_is c.deref-station-items.result.now c.loop-station.station-index c.station-item.result c.deref-station-items.ensures.value c.station-item.is c.loop-station-test.true in
    All-more IsStationFinished c.args.self.now.stations c.loop-station.station-index c.station-item.result there.0 c.loop-station.invariant (subst IsStationFinished there.1 (c.if-not-is_finished.ensures.0 refl))

pub returns : goal.returns
returns c =
    let long : length c.deref-station-items.result.now ≡ length c.args.self.now.stations = ap length c.deref-station-items.ensures.value ∙ ap (λ (r : Row). length r.stations) c.self.view_is in (
      (λ yes'. subst (All IsStationFinished) (take_all c.loop-station.station-index c.args.self.now.stations (omega (arith, long, c.loop-station-test.false))) c.loop-station.invariant),
      (λ all. refl),
    )
