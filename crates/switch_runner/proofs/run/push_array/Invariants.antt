use Rattle.std.proofs.Common.{◌≡◌, ◌+◌, ◌++◌, take, vec_len, vec_capacity}
use Rattle.mp5_words.specs.Cells.{cells_at}
use Rattle.switch_runner.proofs.run.push_array.Given as goal

-- the cells before this one are appended
abbrev pub invariant-loop-i : goal.invariant-loop-i
invariant-loop-i l = record {
  items : l.cells.items ≡ l.fn.cells.items ++ take l.i (cells_at l.bench.cells l.array);
  len : vec_len l.cells ≡ vec_len l.fn.cells + l.i;
  capacity : vec_capacity l.cells ≡ vec_capacity l.fn.cells;
}
