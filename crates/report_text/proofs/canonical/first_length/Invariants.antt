-- no line ends in the bytes so far
use Rattle.std.proofs.Common.{◌≡◌, take, drop}
use Rattle.report_text.specs.PlanLines.{lines_of}
use Rattle.report_text.proofs.LineLemmas.{all_before}
use Rattle.report_text.proofs.canonical.first_length.Given as goal

abbrev pub invariant-loop-i : goal.invariant-loop-i
invariant-loop-i l = lines_of l.text ≡ all_before (take l.i l.text) (lines_of (drop l.i l.text))
