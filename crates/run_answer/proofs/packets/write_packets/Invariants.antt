use Rattle.run_answer.proofs.PacketsLemmas.{AreWritten}
use Rattle.run_answer.proofs.packets.write_packets.Given as goal

-- the packets of the first pipes stand in their rows
abbrev pub invariant-loop-worker : goal.invariant-loop-worker
invariant-loop-worker l = AreWritten l.run l.worker-index l.packets
