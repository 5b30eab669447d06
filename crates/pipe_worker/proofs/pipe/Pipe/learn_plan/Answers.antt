use Rattle.pipe_worker.proofs.KeepLemmas.{plan_fits, plan_learned}
use Rattle.pipe_worker.proofs.pipe.Pipe.learn_plan.Goals as goal

pub apply-requires-clause-plan : goal.apply-requires-clause-plan
apply-requires-clause-plan c = plan_fits _ c.args.self.now c.args.plan.now.moves.items c.self.view_is c.self.invariant.0 c.requires

pub invariant_of-self : goal.invariant_of-self
invariant_of-self c =
    (plan_learned _ c.args.self.now c.args.plan.now.moves.items _ c.self.view_is c.self.invariant.0 c.requires c.apply.ensures, c.self.invariant.1, c.self.invariant.2)
