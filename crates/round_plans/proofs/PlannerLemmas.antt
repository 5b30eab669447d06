-- The planner after its next decision.
use Rattle.std.proofs.Common.{◌≡◌, ℕ, ◌*◌, ◌<◌, ◌≤◌, List, [], ◌∷◌, ◌++◌, length, sym, ap, subst, ◌∙◌, arith, length-append}
use Rattle.std.proofs.Math.Nat.{mul-le-mul_right}
use Rattle.shard_rounds.specs.declared.plan.Move.{Move}
use Rattle.shard_rounds.specs.Rounds.{OwnerTable, IsPlan}
use Rattle.shard_rounds.specs.Choice.{IsChoice, AreOverSame}
use Rattle.run_laws.specs.Run.{last_round}
use Rattle.run_laws.specs.LawfulPlans.{loads_below}
use Rattle.round_plans.specs.Counting.{Counted}
use Rattle.round_plans.specs.Planning.{IsPlanner, IsNextChoice}
use Rattle.round_plans.proofs.ChoicePlans.{lawful_more, over_same}
use Rattle.shard_rounds.proofs.Choosing.{choice_plan}

-- the run counted up to the round whose owners choose
abbrev pub counted_for : Counted → OwnerTable → Counted
counted_for c o = record { run = c.run; below = length o.plans * c.run.settings.round }

-- the owners after one plan more
abbrev pub owners_with : OwnerTable → List Move → OwnerTable
owners_with o moves = record o { plans = o.plans ++ moves ∷ [] }

-- a planner that is counted so far
pub counted_on : (c : Counted) (o : OwnerTable) → IsPlanner c o → IsPlanner (counted_for c o) o
counted_on c o h = record { owners = h.owners; lawful = h.lawful; behind = omega arith }

-- the next choice is a plan
pub next_plan : (c : Counted) (o : OwnerTable) (moves : List Move) → IsPlanner c o → IsNextChoice c.run o moves → IsPlan o moves
next_plan c o moves h choice =
    choice_plan (loads_below c.run (length o.plans * c.run.settings.round)) o moves
    (subst (λ (x : OwnerTable). AreOverSame (loads_below c.run (length o.plans * c.run.settings.round)) x) (sym h.owners) (over_same c.run (length o.plans * c.run.settings.round) o.plans)) choice

-- and makes a planner with one plan more
pub planner_next : (c : Counted) (o after : OwnerTable) (moves : List Move) → IsPlanner c o → length o.plans < last_round c.run → IsNextChoice c.run o moves → after ≡ owners_with o moves → IsPlanner c after
planner_next c o after moves h more choice applied =
    subst (λ (x : OwnerTable). IsPlanner c x) (sym applied) (record {
      owners = ap (λ (x : OwnerTable). owners_with x moves) h.owners;
      lawful = lawful_more c.run o.plans moves h.lawful more (subst (λ (x : OwnerTable). IsChoice (loads_below c.run (length o.plans * c.run.settings.round)) x moves) h.owners choice);
      behind =
          let long = length-append o.plans (moves ∷ []) in
          let behind = h.behind in
          let wider = mul-le-mul_right c.run.settings.round (let le : length o.plans ≤ length (o.plans ++ moves ∷ []) = omega (arith, long) in le) in
          omega arith;
    })
