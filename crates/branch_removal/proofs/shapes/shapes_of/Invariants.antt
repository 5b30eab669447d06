-- the arrays so far, with those that are left behind them, are all arrays
use Rattle.std.proofs.Common.{◌≡◌, ◌++◌, drop}
use Rattle.domino_check.specs.Numbering.{accesses}
use Rattle.branch_removal.specs.Shapes.{shapes_from, shapes_of}
use Rattle.branch_removal.proofs.shapes.shapes_of.Given as goal

abbrev pub invariant-loop-info : goal.invariant-loop-info
invariant-loop-info l = record {
  shapes : l.shapes ++ shapes_from (accesses l.checked) l.number (drop l.info-index l.infos) ≡ shapes_of l.checked;
  number : l.number ≡ l.info-index;
}
