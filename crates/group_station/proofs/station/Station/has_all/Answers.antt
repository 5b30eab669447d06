use Rattle.group_station.proofs.DoneLemmas.{all_here}
use Rattle.group_station.proofs.station.Station.has_all.Goals as goal

pub returns-clause-all : goal.returns-clause-all
returns-clause-all c = all_here _ _ c.self.inside.awaited c.is_none.result c.self.view_is c.self.invariant.1 c.is_none.ensures
