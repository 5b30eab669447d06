use Rattle.std.proofs.Common.{◌≡◌, ◌≤◌, ◌*◌, sum, take}
use Rattle.switch_net.proofs.fabric.total.Given as goal

-- the sum of the first counts, each below 2^32
abbrev pub invariant-loop-count : goal.invariant-loop-count
invariant-loop-count l = record {
  summed : l.total ≡ sum (take l.count-index l.counts);
  below : l.total ≤ l.count-index * 4294967295;
}
