use Rattle.std.proofs.Common.{◌≡◌, length, vec_capacity}
use Rattle.switch_net.proofs.MoveLemmas.{AreMoved}
use Rattle.switch_net.proofs.network.workers_of.Given as goal

-- the workers of the first drivers are there
abbrev pub invariant-loop-workers : goal.invariant-loop-workers
invariant-loop-workers l = record {
  moved : AreMoved l.run l.drivers.items l.workers.items;
  room : vec_capacity l.workers ≡ vec_capacity l.fn.workers;
}

-- how many drivers are left
abbrev pub decreases-loop-workers : goal.decreases-loop-workers
decreases-loop-workers l = length l.drivers.items
