-- the lanes to the first pipes
use Rattle.switch_net.specs.Building.{AreLaid}
use Rattle.switch_net.proofs.building.lay_from.Given as goal

abbrev pub invariant-loop-to : goal.invariant-loop-to
invariant-loop-to g l = AreLaid l.run l.from l.to l.to l.workers
