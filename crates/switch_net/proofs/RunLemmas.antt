-- What stands in a network once its pipes have taken their turns.
use Rattle.std.proofs.Common.{◌≡◌, List, [], length, subst, sym, ap, ◌∙◌}
use Rattle.std.proofs.lemmas.List.{with_items_is}
use Rattle.std.specs.Vec.{with_items}
use Rattle.std.specs.Prelude.{Vec}
use Rattle.shard_rounds.specs.declared.plan.Move.{Move}
use Rattle.shard_rounds.specs.declared.plan.Plan.{Plan}
use Rattle.run_laws.specs.Run.{Run, last_round}
use Rattle.pipe_driver.specs.Driver.{Driver}
use Rattle.switch_net.specs.declared.answer.Answer.{Answer}
use Rattle.switch_net.specs.Building.{ArePlanned, HasRoom}
use Rattle.switch_net.specs.Driving.{AreDrivers, HaveStopped}

-- drivers that have stopped, where those of the beginning stood
pub stopped_there : {Z : Type 0} (run now : Run) (plans : List (List Move)) (held : Vec Driver Z) (ds : List Driver) → now ≡ run → AreDrivers run [] held.items → AreDrivers now plans ds → HaveStopped ds → HaveStopped (with_items held ds).items
stopped_there run now plans held ds same first last stopped =
    let long : length ds ≡ held.len = last.count ∙ ap (λ (r : Run). r.settings.pipelines) same ∙ sym first.count ∙ sym held.ok.0 in
    subst (λ (xs : List Driver). HaveStopped xs) (sym (with_items_is held ds long)) stopped

-- the room for the answer, with the plans that were decided
pub room_there : (run now : Run) (plans known : List (List Move)) (a : Answer) (ps : List Plan) → now ≡ run → known ≡ plans → HasRoom run [] a → ArePlanned plans (last_round now) ps → HasRoom run known (record a { plans = with_items a.plans ps })
room_there run now plans known a ps same told r planned =
    let of_run : ArePlanned plans (last_round run) ps = subst (λ (s : Run). ArePlanned plans (last_round s) ps) same planned in
    let of_known : ArePlanned known (last_round run) ps = subst (λ (ms : List (List Move)). ArePlanned ms (last_round run) ps) (sym told) of_run in
    let long : length ps ≡ a.plans.len = of_run.size ∙ sym r.plans.size ∙ sym a.plans.ok.0 in
    record {
      count = r.count;
      packets = r.packets;
      cells = r.cells;
      counts = r.counts;
      by = r.by;
      touched = r.touched;
      cells_room = r.cells_room;
      counts_room = r.counts_room;
      by_room = r.by_room;
      touched_room = r.touched_room;
      plans = subst (λ (xs : List Plan). ArePlanned known (last_round run) xs) (sym (with_items_is a.plans ps long)) of_known;
    }
