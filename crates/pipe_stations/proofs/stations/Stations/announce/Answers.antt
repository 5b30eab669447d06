use Rattle.std.proofs.Common.{◌≡◌, length, refl, subst, arith}
use Rattle.std.proofs.lemmas.List.{with_items_is}
use Rattle.pipe_stations.specs.Row.{IsRow}
use Rattle.pipe_stations.proofs.AnnounceLemmas.{each_can, all_told, room_all}
use Rattle.pipe_stations.proofs.stations.Stations.announce.Goals as goal

pub announce_all-requires-clause-each : goal.announce_all-requires-clause-each
announce_all-requires-clause-each c =
    each_can _ c.args.self.now c.deref_mut.result.now c.args.source c.args.t c.given-given.result c.self.view_is c.deref_mut.ensures.value c.self.invariant c.requires.source c.requires.arrival c.requires.turn
    c.given-given.ensures (c.if-not-has_room.ensures.room refl)

pub returns-clause-ok : goal.returns-clause-ok
returns-clause-ok c =
    let long : length c.announce_all.new.stations ≡ c.self.inside.stations.len = omega (arith, c.deref_mut.ensures.len) in
    all_told _ c.args.self.now c.deref_mut.result.now c.announce_all.new.stations _ c.args.source c.args.t c.given-given.result c.self.view_is c.deref_mut.ensures.value
    (with_items_is c.self.inside.stations c.announce_all.new.stations long) (omega arith) c.announce_all.ensures c.given-given.ensures

pub returns-clause-room : goal.returns-clause-room
returns-clause-room c =
    room_all c.args.self.now c.args.source c.args.t c.given-given.result (subst IsRow c.self.view_is c.self.invariant) c.given-given.ensures (c.if-not-has_room.ensures.room refl)
