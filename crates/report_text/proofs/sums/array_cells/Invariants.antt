-- the cells of the arrays before it
use Rattle.std.proofs.Common.{◌≡◌, take}
use Rattle.report_text.specs.Report.{cell_count}
use Rattle.report_text.proofs.sums.array_cells.Given as goal

abbrev pub invariant-loop-info : goal.invariant-loop-info
invariant-loop-info l = l.first ≡ cell_count (take l.info-index l.infos)
