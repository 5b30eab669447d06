use Rattle.stage_packing.proofs.NodeLemmas.{table_closed, groups_right}
use Rattle.stage_packing.proofs.groups.groups_of.Goals as goal

pub number_groups-requires : goal.number_groups-requires
number_groups-requires c = record { closed = table_closed _ c.requires.ordered _ c.members_of-members.ensures _ c.requires.reached _ c.table_of.ensures }

pub returns-clause-groups : goal.returns-clause-groups
returns-clause-groups c = groups_right _ c.requires.ordered _ c.members_of-members.ensures _ c.requires.reached _ c.table_of.ensures _ c.touched_by.ensures _ _ c.number_groups.ensures.groups
