use Rattle.pair_lane.proofs.RuleLemmas.{begins, parts}
use Rattle.pair_lane.proofs.ends.pair.Goals as goal

pub ruled-requires-clause-rule : goal.ruled-requires-clause-rule
ruled-requires-clause-rule g c = begins _

pub another-other-requires-clause-rule : goal.another-other-requires-clause-rule
another-other-requires-clause-rule g c = parts _ _ _ _ c.take_key.ensures.known
