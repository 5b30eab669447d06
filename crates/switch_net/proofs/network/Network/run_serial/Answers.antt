use Rattle.std.proofs.Common.{ap, ◌∙◌}
use Rattle.switch_net.proofs.RunLemmas.{stopped_there, room_there}
use Rattle.switch_net.proofs.network.Network.run_serial.Goals as goal

pub end-requires-clause-finished : goal.end-requires-clause-finished
end-requires-clause-finished g c =
    let turns = c.run_passes in
    let law = c.self.invariant.0 in
    stopped_there c.self.inside.run turns.new.planner.run turns.new.planner.plans c.self.inside.drivers turns.new.drivers (turns.ensures.run ∙ law.of_run) law.drivers_are turns.ensures.drivers turns.ensures.finished

pub end-requires-clause-answer : goal.end-requires-clause-answer
end-requires-clause-answer g c =
    let turns = c.run_passes in
    let law = c.self.invariant.0 in
    room_there c.self.inside.run turns.new.planner.run turns.new.planner.plans c.owners.result.now.plans c.self.inside.answer turns.new.plans (turns.ensures.run ∙ law.of_run) (ap (λ o. o.plans) c.owners.ensures.owners) law.room turns.ensures.plans
