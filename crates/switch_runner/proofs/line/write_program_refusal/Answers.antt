use Rattle.std.proofs.Common.{◌∙◌, codes, sym, ap}
use Rattle.report_text.specs.RefusalLine.{with_one, program_line}
use Rattle.switch_runner.proofs.WritingLemmas.{puts_same}
use Rattle.switch_runner.proofs.line.write_program_refusal.Goals as goal

pub returns-in-TooLarge : goal.returns-in-TooLarge
returns-in-TooLarge g c =
    puts_same c.write_one.result _ _ _ _ (ap program_line c.in-TooLarge.is ∙ ap (with_one (codes "mp5: program 13 ")) (sym c.from.ensures)) c.write_one.ensures
