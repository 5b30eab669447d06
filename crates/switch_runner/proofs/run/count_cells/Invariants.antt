use Rattle.std.proofs.Common.{◌≡◌, ◌≤◌, ◌*◌, take}
use Rattle.report_text.specs.Report.{cell_count}
use Rattle.switch_runner.proofs.run.count_cells.Given as goal

-- the cells of the arrays before this one are counted
abbrev pub invariant-loop-info : goal.invariant-loop-info
invariant-loop-info l = record {
  counted : l.total ≡ cell_count (take l.info-index l.infos);
  small : l.total ≤ l.info-index * 4294967295;
}
