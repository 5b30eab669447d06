use Rattle.std.proofs.Common.{◌≡◌, ◌<◌, ◌∙◌, length, refl, sym, ap, subst, arith, slice_index_or, None}
use Rattle.run_laws.specs.Run.{Run}
use Rattle.group_station.specs.Station.{Station}
use Rattle.pipe_stations.specs.Row.{Row}
use Rattle.pipe_stations.specs.RowSteps.{HasRoomAt}
use Rattle.pipe_stations.proofs.RowLemmas.{run_found, found}
use Rattle.pipe_stations.proofs.AnnounceLemmas.{room_more}
use Rattle.pipe_stations.proofs.stations.Stations.has_room.Goals as goal

pub has_room-requires-clause-source : goal.has_room-requires-clause-source
has_room-requires-clause-source c =
    let long : length c.self.inside.stations.items ≡ length c.args.self.now.stations = ap (λ (r : Row). length r.stations) c.self.view_is in
    let there : c.loop-g.g < length c.args.self.now.stations = omega (arith, c.len-g-end.ensures, c.self.inside.stations.ok.0) in
    let at = run_found _ _ c.self.view_is c.loop-g.g _ c.index.ensures there c.self.invariant in
    omega (arith, ap (λ (run : Run). run.settings.pipelines) at, c.requires)

pub has_room-requires-clause-window : goal.has_room-requires-clause-window
has_room-requires-clause-window c =
    let long : length c.self.inside.stations.items ≡ length c.args.self.now.stations = ap (λ (r : Row). length r.stations) c.self.view_is in
    let there : c.loop-g.g < length c.args.self.now.stations = omega (arith, c.len-g-end.ensures, c.self.inside.stations.ok.0) in
    let at = run_found _ _ c.self.view_is c.loop-g.g _ c.index.ensures there c.self.invariant in
    ap (λ (r : Row). r.run.settings.window) c.self.view_is ∙ sym (ap (λ (run : Run). run.settings.window) at)

pub loop-g-preserved : goal.loop-g-preserved
loop-g-preserved c =
    let long : length c.self.inside.stations.items ≡ length c.args.self.now.stations = ap (λ (r : Row). length r.stations) c.self.view_is in
    let there : c.loop-g.g < length c.args.self.now.stations = omega (arith, c.len-g-end.ensures, c.self.inside.stations.ok.0) in
    let at = found _ _ c.self.view_is c.loop-g.g _ c.index.ensures there in
    room_more c.args.self.now c.args.source c.args.given.now c.loop-g.g c.loop-g.invariant
    (subst (λ (s : Station). HasRoomAt s c.args.source (slice_index_or c.args.given.now c.loop-g.g None)) at (c.if-not-has_room.ensures.room refl))
