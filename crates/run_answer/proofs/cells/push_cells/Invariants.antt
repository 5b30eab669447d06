use Rattle.std.proofs.Common.{◌≡◌, vec_len, vec_capacity}
use Rattle.run_laws.specs.Run.{arrivals, units_before}
use Rattle.run_answer.specs.Cells.{cells_below, cell_count}
use Rattle.run_answer.proofs.cells.push_cells.Given as goal

-- the cells of the first arrays are appended
abbrev pub invariant-loop-a : goal.invariant-loop-a
invariant-loop-a l = record {
  items : l.cells.items ≡ cells_below l.run.code (units_before l.run (arrivals l.run)) l.a;
  len : vec_len l.cells ≡ cell_count l.run.code l.a;
  capacity : vec_capacity l.cells ≡ vec_capacity l.fn.cells;
}
