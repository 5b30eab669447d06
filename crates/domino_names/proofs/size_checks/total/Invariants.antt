-- the sum of the lengths so far
use Rattle.std.proofs.Common.{◌≡◌, ◌≤◌, ◌*◌, sum, take}
use Rattle.domino_names.proofs.size_checks.total.Given as goal

abbrev pub invariant-loop-length : goal.invariant-loop-length
invariant-loop-length l = record {
  added : l.total ≡ sum (take l.length-index l.lengths);
  within : l.total ≤ 4294967295 * l.length-index;
}
