use Rattle.std.proofs.Common.{◌≡◌, ◌∙◌, ◌*◌, List, ℕ, length, ap, sym, subst}
use Rattle.shard_rounds.specs.Choice.{AreOverSame}
use Rattle.shard_rounds.specs.Rounds.{OwnerTable}
use Rattle.shard_rounds.proofs.Choosing.{lone_all}
use Rattle.run_laws.specs.LawfulPlans.{loads_below}
use Rattle.round_plans.specs.Counting.{Counted}
use Rattle.round_plans.proofs.ChoicePlans.{over_same}
use Rattle.round_plans.proofs.planner.choose.Goals as goal

pub returns-then-pipelines-eq1-clause-choice : goal.returns-then-pipelines-eq1-clause-choice
returns-then-pipelines-eq1-clause-choice c =
    let loads : List (List ℕ) = loads_below c.args.run.now.run (length c.args.owners.now.plans * c.args.run.now.run.settings.round) in
    lone_all loads c.args.owners.now (length loads) (ap (λ (o : OwnerTable). o.pipelines) c.requires.planner.owners ∙ sym c.pipelines.ensures ∙ c.if-pipelines-eq1.true)

pub choose_into-requires : goal.choose_into-requires
choose_into-requires c =
    let loads : c.loads.result.now ≡ loads_below c.args.run.now.run c.round_start-end.result = c.loads.ensures.loads ∙ ap (λ (x : Counted). loads_below x.run x.below) c.count_to.ensures in
    subst (λ (x : List (List ℕ) × OwnerTable). AreOverSame x.0 x.1) (λ i. (sym loads i, sym c.requires.planner.owners i))
    (over_same c.args.run.now.run c.round_start-end.result c.args.owners.now.plans)
