use Rattle.std.proofs.Common.{◌≡◌, ◌+◌, ◌++◌, vec_len, vec_capacity}
use Rattle.run_laws.specs.Run.{arrivals, load_below}
use Rattle.run_laws.specs.LawfulPlans.{row_below}
use Rattle.run_answer.proofs.counts.push_group.Given as goal

-- the counts of the first units are appended
abbrev pub invariant-loop-u : goal.invariant-loop-u
invariant-loop-u l = record {
  items : l.counts.items ≡ l.fn.counts.items ++ row_below (λ u. load_below l.run l.g u (arrivals l.run)) l.u;
  len : vec_len l.counts ≡ vec_len l.fn.counts + l.u;
  capacity : vec_capacity l.counts ≡ vec_capacity l.fn.counts;
}
