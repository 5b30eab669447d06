use Rattle.std.proofs.Common.{◌<◌, List, length, sym, subst}
use Rattle.shard_rounds.specs.declared.plan.Move.{Move}
use Rattle.run_laws.specs.Run.{Run, last_round}
use Rattle.round_plans.specs.Planning.{Plans, IsNextChoice}
use Rattle.round_plans.proofs.PlannerLemmas.{planner_next}
use Rattle.round_plans.proofs.planner.Planner.decide.Goals as goal

pub invariant_of-self : goal.invariant_of-self
invariant_of-self c =
    planner_next c.choose-count.new.run c.self.inside.owners c.apply.new.self c.fill.new.plan.moves.items c.choose-count.ensures.planner
    (subst (λ (run : Run). length c.self.inside.owners.plans < last_round run) (sym c.choose-count.ensures.run)
    (subst (λ (x : Plans). length x.plans < last_round x.run) (sym c.self.view_is) c.requires.more))
    (subst (λ (x : Run × List Move). IsNextChoice x.0 c.self.inside.owners x.1) (λ i. (sym c.choose-count.ensures.run i, sym c.fill.ensures.moves i)) c.choose-count.ensures.choice) c.apply.ensures

pub returns-clause-lawful : goal.returns-clause-lawful
returns-clause-lawful c = (invariant_of-self c).lawful
