use Rattle.std.proofs.Common.{◌≡◌, ◌∙◌, ap, sym, subst, map, arith}
use Rattle.std.proofs.lemmas.List.{take_all}
use Rattle.code_forms.specs.Staged.{unit_count}
use Rattle.shard_rounds.specs.Rounds.{AreUnits}
use Rattle.round_plans.proofs.ArrivalLemmas.{units_sized}
use Rattle.round_plans.proofs.planner.unit_counts.Goals as goal

pub returns-clause-units : goal.returns-clause-units
returns-clause-units c =
    let all : c.loop-g.units.items ≡ map (unit_count c.args.code.now) c.args.code.now.groups =
    c.loop-g.invariant.counts ∙ ap (map (unit_count c.args.code.now)) (take_all c.loop-g.g c.args.code.now.groups (omega arith)) in
    subst AreUnits (sym all) (units_sized c.args.code.now c.groups.ensures.few c.groups.ensures.sizes)
