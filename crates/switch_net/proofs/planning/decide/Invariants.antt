use Rattle.switch_net.proofs.DriveLemmas.{AreLearning}
use Rattle.switch_net.proofs.planning.decide.Given as goal

-- the first pipes know the plan
abbrev pub invariant-loop-p : goal.invariant-loop-p
invariant-loop-p l = AreLearning l.fn.planner.run l.fn.planner.plans l.plan.moves.items l.p l.drivers
