-- the lanes from the first pipes
use Rattle.switch_net.specs.Building.{AreLaid}
use Rattle.switch_net.proofs.building.drivers.Given as goal

abbrev pub invariant-loop-from : goal.invariant-loop-from
invariant-loop-from g l = AreLaid l.run l.from 0 0 l.workers.items
