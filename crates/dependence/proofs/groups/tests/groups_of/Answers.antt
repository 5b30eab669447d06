use Rattle.dependence.proofs.LevelLemmas.{is_closed}
use Rattle.dependence.proofs.groups.tests.groups_of.Goals as goal

pub number_groups-requires : goal.number_groups-requires
number_groups-requires c = record { closed = is_closed _ _ c.close.ensures }
