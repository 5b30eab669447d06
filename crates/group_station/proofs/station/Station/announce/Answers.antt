use Rattle.group_station.proofs.AnnounceLemmas.{announced_at}
use Rattle.group_station.proofs.station.Station.announce.Goals as goal

pub invariant_of-self : goal.invariant_of-self
invariant_of-self c =
    announced_at _ _ c.args.source c.args.t c.args.unit _ c.announce.new.self c.announce.result c.self.view_is c.self.invariant.0 c.self.invariant.1
    (record { within = c.requires.source; turn = c.requires.turn; early = c.requires.arrival; given = c.requires.given })
    c.announce.ensures.ok c.announce.ensures.room c.announce.ensures.kept
