use Rattle.pair_lane.proofs.RuleLemmas.{receives}
use Rattle.pair_lane.proofs.receiver.Receiver.receive.Goals as goal

pub pop_as-requires-clause-rule : goal.pop_as-requires-clause-rule
pop_as-requires-clause-rule g c = (receives _ _ _ _ c.self.invariant.1, λ items views h at. tt)
