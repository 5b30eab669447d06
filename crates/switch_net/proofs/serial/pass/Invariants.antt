use Rattle.switch_net.specs.Driving.{AreSamePipes}
use Rattle.switch_net.proofs.serial.pass.Given as goal

-- all pipes are the same
abbrev pub invariant-loop-k : goal.invariant-loop-k
invariant-loop-k g l = AreSamePipes l.fn.drivers l.drivers
