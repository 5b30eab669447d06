use Rattle.switch_runner.proofs.RunLemmas.{Comes}
use Rattle.switch_runner.proofs.run.run_packets.Given as goal

-- the packets before this one are done, and the run on those that are left ends as the whole run does
abbrev pub invariant-loop-t : goal.invariant-loop-t
invariant-loop-t l = Comes l.fn.bench l.bench l.fn.packets l.packets l.count l.width l.t
