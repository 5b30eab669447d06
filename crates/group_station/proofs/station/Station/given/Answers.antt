use Rattle.std.proofs.Common.{◌∙◌, sym}
use Rattle.group_station.proofs.GivenLemmas.{other_place}
use Rattle.group_station.proofs.station.Station.given.Goals as goal

pub returns-else-at-self : goal.returns-else-at-self
returns-else-at-self c =
    other_place _ _ c.args.owners.now c.args.t c.in_ok-u.u c.at.result c.self.view_is c.requires.owners (sym c.in_ok-u.was ∙ c.requires.place) c.requires.known c.at.ensures.owner c.if-at-self.false
