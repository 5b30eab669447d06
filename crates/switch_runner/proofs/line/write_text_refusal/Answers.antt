use Rattle.std.proofs.Common.{◌∙◌, codes, sym, ap}
use Rattle.report_text.specs.RefusalLine.{with_one, text_line}
use Rattle.switch_runner.proofs.WritingLemmas.{puts_same}
use Rattle.switch_runner.proofs.line.write_text_refusal.Goals as goal

pub returns-in-BadToken : goal.returns-in-BadToken
returns-in-BadToken g c =
    puts_same c.write_one-in-BadToken.result _ _ _ _ (ap text_line c.in-BadToken.is ∙ ap (with_one (codes "mp5: program 2 ")) (sym c.from.ensures)) c.write_one-in-BadToken.ensures

pub returns-in-TooDeep : goal.returns-in-TooDeep
returns-in-TooDeep g c =
    puts_same c.write_one-in-TooDeep.result _ _ _ _ (ap text_line c.in-TooDeep.is ∙ ap (with_one (codes "mp5: program 4 ")) (sym c.from-in-TooDeep.ensures)) c.write_one-in-TooDeep.ensures

pub returns-in-Syntax : goal.returns-in-Syntax
returns-in-Syntax g c =
    puts_same c.write_one-in-Syntax.result _ _ _ _ (ap text_line c.in-Syntax.is ∙ ap (with_one (codes "mp5: program 3 ")) (sym c.from-in-Syntax.ensures)) c.write_one-in-Syntax.ensures
