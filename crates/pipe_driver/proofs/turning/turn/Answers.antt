use Rattle.pipe_driver.proofs.TurnLemmas.{one_turn}
use Rattle.pipe_driver.proofs.turning.turn.Goals as goal

pub returns-clause-turns : goal.returns-clause-turns
returns-clause-turns c = (one_turn c.turn-done.result c.args.pipe.now c.turn-done.new.self c.exit.ensures.laws c.exit-2.ensures.laws c.requires c.turn-done.ensures.did c.turn-done.ensures.kept).turns

pub returns-clause-queues : goal.returns-clause-queues
returns-clause-queues c = (one_turn c.turn-done.result c.args.pipe.now c.turn-done.new.self c.exit.ensures.laws c.exit-2.ensures.laws c.requires c.turn-done.ensures.did c.turn-done.ensures.kept).queues
