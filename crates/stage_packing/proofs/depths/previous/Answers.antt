use Rattle.stage_packing.proofs.UseLemmas.{previous_is}
use Rattle.stage_packing.proofs.depths.previous.Goals as goal

pub returns-else-group-eq0 : goal.returns-else-group-eq0
returns-else-group-eq0 c = previous_is c.args.members.now c.args.of.now c.args.spot c.in-Group.group c.head_of.result c.in-Group.is c.if-group-eq0.false c.head_of.ensures
