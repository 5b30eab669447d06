use Rattle.std.proofs.Common.{subst, sym}
use Rattle.pair_lane.specs.Lane.{Strand}
use Rattle.pair_lane.proofs.RuleLemmas.{sends, waits}
use Rattle.pair_lane.proofs.sender.Sender.send.Goals as goal

pub push_as-requires-clause-rule : goal.push_as-requires-clause-rule
push_as-requires-clause-rule g c = (
  sends _ _ _ _ _ _ c.self.invariant.1 (subst (λ (end : Strand _ _). g.T.Carried.fits end.key end.items c.args.item) (sym c.self.view_is) c.requires.fits),
  waits _ _ _ _ c.self.invariant.1,
)
