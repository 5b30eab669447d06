use Rattle.std.proofs.Common.{◌≡◌, take, vec_len, vec_capacity}
use Rattle.std.specs.List.{flat_map}
use Rattle.report_text.specs.Report.{cell_count}
use Rattle.switch_runner.proofs.run.push_arrays.Given as goal

-- the cells of the arrays before this one are appended
abbrev pub invariant-loop-array : goal.invariant-loop-array
invariant-loop-array l = record {
  items : l.cells.items ≡ flat_map (λ c. c) (take l.array l.bench.cells);
  len : vec_len l.cells ≡ cell_count (take l.array l.infos);
  capacity : vec_capacity l.cells ≡ vec_capacity l.fn.cells;
}
