use Rattle.std.proofs.Common.{◌≡◌, ◌∙◌, ap, sym, subst, map, arith}
use Rattle.std.proofs.lemmas.List.{take_all}
use Rattle.code_forms.specs.Staged.{unit_count}
use Rattle.shard_rounds.specs.Rounds.{AreUnits}
use Rattle.pipe_worker.proofs.StartLemmas.{units_sized}
use Rattle.pipe_worker.proofs.pipe.owners.Goals as goal

pub start-requires-clause-units : goal.start-requires-clause-units
start-requires-clause-units c =
    let all : c.deref.result.now ≡ map (unit_count c.args.code.now) c.args.code.now.groups =
    c.deref.ensures.value ∙ c.loop-g.invariant.counts ∙ ap (map (unit_count c.args.code.now)) (take_all c.loop-g.g c.args.code.now.groups (omega arith)) in
    subst AreUnits (sym all) (units_sized c.args.code.now c.groups-groups.ensures.few c.groups-groups.ensures.sizes)
