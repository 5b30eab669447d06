-- the labels of the fields so far
use Rattle.std.proofs.Common.{◌≡◌, map, take}
use Rattle.report_text.specs.Report.{label}
use Rattle.report_text.proofs.labels.all_labels.Given as goal

abbrev pub invariant-loop-i : goal.invariant-loop-i
invariant-loop-i l = l.labels.items ≡ map label (take l.i l.names)
