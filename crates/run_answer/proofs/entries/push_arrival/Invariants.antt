use Rattle.std.proofs.Common.{◌≡◌, vec_capacity}
use Rattle.run_answer.specs.Results.{AreEntriesTo}
use Rattle.run_answer.proofs.entries.push_arrival.Given as goal

-- the entries of the arrival at the first groups are there too
abbrev pub invariant-loop-g : goal.invariant-loop-g
invariant-loop-g l = record {
  entries : AreEntriesTo l.run l.t l.g l.by.items l.touched.items;
  by_room : vec_capacity l.by ≡ vec_capacity l.fn.by;
  touched_room : vec_capacity l.touched ≡ vec_capacity l.fn.touched;
}
