use Rattle.std.proofs.Common.{◌∙◌, ℤ, codes, sym, ap, rules, w32, FitsSigned}
use Rattle.std.specs.Fmt.{signed_decimal}
use Rattle.std.proofs.lemmas.Int.{to_z-of_z}
use Rattle.report_text.specs.RefusalLine.{with_pair, check_line}
use Rattle.switch_runner.proofs.WritingLemmas.{puts_same}
use Rattle.switch_runner.proofs.line.write_check_refusal.Goals as goal

pub returns-in-BadLength : goal.returns-in-BadLength
returns-in-BadLength g c =
    let fits : FitsSigned w32 c.in-BadLength.length = search rules in
    puts_same c.write_length.result _ _ _ _ (ap check_line c.in-BadLength.is ∙ ap (λ (z : ℤ). with_pair (codes "mp5: program 9 ") c.in-BadLength.name (signed_decimal z)) (sym (to_z-of_z w32 _ fits))) c.write_length.ensures

pub returns-in-TooMany : goal.returns-in-TooMany
returns-in-TooMany g c = puts_same c.write_count.result _ _ _ _ (ap check_line c.in-TooMany.is) c.write_count.ensures

pub returns-in-IndexDiffers : goal.returns-in-IndexDiffers
returns-in-IndexDiffers g c = puts_same c.write_name-in-IndexDiffers.result _ _ _ _ (ap check_line c.in-IndexDiffers.is) c.write_name-in-IndexDiffers.ensures

pub returns-in-IndexMoves : goal.returns-in-IndexMoves
returns-in-IndexMoves g c = puts_same c.write_name-in-IndexMoves.result _ _ _ _ (ap check_line c.in-IndexMoves.is) c.write_name-in-IndexMoves.ensures
