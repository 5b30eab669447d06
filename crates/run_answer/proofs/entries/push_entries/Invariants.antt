use Rattle.std.proofs.Common.{◌≡◌, vec_capacity}
use Rattle.run_answer.specs.Results.{AreEntriesTo}
use Rattle.run_answer.proofs.entries.push_entries.Given as goal

-- the entries of the first arrivals are there
abbrev pub invariant-loop-t : goal.invariant-loop-t
invariant-loop-t l = record {
  entries : AreEntriesTo l.run l.t 0 l.by.items l.touched.items;
  by_room : vec_capacity l.by ≡ vec_capacity l.fn.by;
  touched_room : vec_capacity l.touched ≡ vec_capacity l.fn.touched;
}
