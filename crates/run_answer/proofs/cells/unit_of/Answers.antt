use Rattle.std.proofs.Common.{◌≡◌, false, true, Option, IsSome, sym, subst, ap}
use Rattle.code_forms.specs.declared.unit.Unit.{Unit as PlacedUnit}
use Rattle.shard_rounds.specs.Rounds.{owner_now}
use Rattle.group_station.specs.Station.{in_hand}
use Rattle.pipe_worker.specs.Pipe.{station}
use Rattle.switch_worker.specs.Worker.{Worker}
use Rattle.switch_worker.specs.Finished.{IsFinished}
use Rattle.run_answer.proofs.CellsLemmas.{unit_here, cells_are}
use Rattle.run_answer.proofs.cells.unit_of.Goals as goal

pub returns : goal.returns
returns c =
    let done : IsFinished c.args.run.now (owner_now c.args.owners.now c.args.g c.args.u) c.worker.inside.pipe =
    subst (λ (w : Worker). IsFinished c.args.run.now (owner_now c.args.owners.now c.args.g c.args.u) w.pipe) (sym c.worker.view_is) c.requires.finished in
    let owner = ap (λ o. owner_now o c.args.g c.args.u) c.requires.owners in
    cells_are c.args.run.now c.args.owners.now.plans (owner_now c.args.owners.now c.args.g c.args.u) c.args.g c.args.u c.worker.inside.pipe c.requires.plans owner done c.in-Some.ensures.laws c.in-Some.ensures.station
    c.requires.group c.requires.unit c.in-Some.unit.now c.in-Some.ensures.unit

pub unreachable-requires : goal.unreachable-requires
unreachable-requires c =
    let done : IsFinished c.args.run.now (owner_now c.args.owners.now c.args.g c.args.u) c.worker.inside.pipe =
    subst (λ (w : Worker). IsFinished c.args.run.now (owner_now c.args.owners.now c.args.g c.args.u) w.pipe) (sym c.worker.view_is) c.requires.finished in
    let owner = ap (λ o. owner_now o c.args.g c.args.u) c.requires.owners in
    let here : IsSome (in_hand (station c.worker.inside.pipe c.args.g) c.args.u) =
    unit_here c.args.run.now c.args.owners.now.plans (owner_now c.args.owners.now c.args.g c.args.u) c.args.g c.args.u c.worker.inside.pipe c.requires.plans owner done c.in-None.ensures.laws c.in-None.ensures.station
    c.requires.group c.requires.unit in
    let clash : false ≡ true = subst (λ (o : Option PlacedUnit). IsSome o) (sym c.in-None.ensures.unit) here in
    absurd (cc)
