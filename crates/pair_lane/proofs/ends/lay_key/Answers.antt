use Rattle.pair_lane.proofs.RuleLemmas.{opens, finds_room}
use Rattle.pair_lane.proofs.ends.lay_key.Goals as goal

pub push_as-requires-clause-rule : goal.push_as-requires-clause-rule
push_as-requires-clause-rule g c = (opens _ _ _ _ _ c.requires.unused, finds_room _ _ _ c.requires.unused)
