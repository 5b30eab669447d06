use Rattle.pair_lane.proofs.RuleLemmas.{unlocks, finds_key}
use Rattle.pair_lane.proofs.ends.take_key.Goals as goal

pub pop_as-requires-clause-rule : goal.pop_as-requires-clause-rule
pop_as-requires-clause-rule g c = (unlocks _ _ _ _ c.requires.laid, finds_key _ _ _ _ c.requires.laid)
