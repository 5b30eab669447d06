use Rattle.std.proofs.Common.{◌≡◌, ◌+◌, ◌++◌, vec_len, vec_capacity}
use Rattle.run_laws.specs.Run.{arrivals, units_before}
use Rattle.run_answer.specs.Cells.{words_below}
use Rattle.run_answer.proofs.cells.push_start.Given as goal

-- the first cells of the array are appended
abbrev pub invariant-loop-i : goal.invariant-loop-i
invariant-loop-i l = record {
  items : l.cells.items ≡ l.fn.cells.items ++ words_below l.run.code (units_before l.run (arrivals l.run)) l.a l.i;
  len : vec_len l.cells ≡ vec_len l.fn.cells + l.i;
  capacity : vec_capacity l.cells ≡ vec_capacity l.fn.cells;
}
