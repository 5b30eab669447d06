use Rattle.run_laws.specs.Run.{arrivals}
use Rattle.run_answer.proofs.CountsLemmas.{ServedBelow}
use Rattle.run_answer.proofs.counts.served.Given as goal

-- what the first pipes serve
abbrev pub invariant-loop-worker : goal.invariant-loop-worker
invariant-loop-worker l = ServedBelow l.run l.g l.u l.worker-index (arrivals l.run) l.count
