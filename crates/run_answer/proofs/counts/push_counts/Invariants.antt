use Rattle.std.proofs.Common.{◌≡◌, vec_len, vec_capacity}
use Rattle.run_answer.proofs.CountsLemmas.{first_counts, first_units}
use Rattle.run_answer.proofs.counts.push_counts.Given as goal

-- the counts of the first groups are appended
abbrev pub invariant-loop-g : goal.invariant-loop-g
invariant-loop-g l = record {
  items : l.counts.items ≡ first_counts l.run l.g;
  len : vec_len l.counts ≡ first_units l.run l.g;
  capacity : vec_capacity l.counts ≡ vec_capacity l.fn.counts;
}
