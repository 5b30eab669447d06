use Rattle.std.proofs.Common.{◌∙◌, List, ℕ, [], ◌∷◌, ◌++◌, codes, sym, ap}
use Rattle.report_text.specs.RefusalLine.{with_one, with_two, refusal_line}
use Rattle.switch_runner.proofs.WritingLemmas.{puts_same}
use Rattle.switch_runner.proofs.line.write_refusal.Goals as goal

pub returns-in-ShortHeader : goal.returns-in-ShortHeader
returns-in-ShortHeader g c =
    puts_same c.write_one-in-ShortHeader.result _ _ _ _ (ap refusal_line c.in-ShortHeader.is ∙ ap (with_one (codes "mp5: capture 2 ")) (sym c.from.ensures)) c.write_one-in-ShortHeader.ensures

pub returns-in-PcapNg : goal.returns-in-PcapNg
returns-in-PcapNg g c = puts_same c.write_text.result _ _ _ _ (ap refusal_line c.in-PcapNg.is) c.write_text.ensures

pub returns-in-BadMagic : goal.returns-in-BadMagic
returns-in-BadMagic g c =
    puts_same c.write_pieces.result _ _ _ _ (ap refusal_line c.in-BadMagic.is ∙ ap (λ (digits : List ℕ). codes "mp5: capture 4 " ++ (digits ++ (10 ∷ []))) (sym c.hex_word.ensures)) c.write_pieces.ensures

pub returns-in-Version : goal.returns-in-Version
returns-in-Version g c =
    puts_same c.write_two.result _ _ _ _ (ap refusal_line c.in-Version.is ∙ ap (λ (n : ℕ). with_two (codes "mp5: capture 5 ") n c.in-Version.minor) (sym c.from-in-Version.ensures) ∙ ap (with_two (codes "mp5: capture 5 ") c.from-in-Version.result) (sym c.from-in-Version-2.ensures)) c.write_two.ensures

pub returns-in-LinkType : goal.returns-in-LinkType
returns-in-LinkType g c =
    puts_same c.write_one-in-LinkType.result _ _ _ _ (ap refusal_line c.in-LinkType.is ∙ ap (with_one (codes "mp5: capture 6 ")) (sym c.from-in-LinkType.ensures)) c.write_one-in-LinkType.ensures

pub returns-in-LongRecord : goal.returns-in-LongRecord
returns-in-LongRecord g c = puts_same c.write_two-in-LongRecord.result _ _ _ _ (ap refusal_line c.in-LongRecord.is) c.write_two-in-LongRecord.ensures

pub returns-in-Truncated : goal.returns-in-Truncated
returns-in-Truncated g c =
    puts_same c.write_one-in-Truncated.result _ _ _ _ (ap refusal_line c.in-Truncated.is ∙ ap (with_one (codes "mp5: capture 8 ")) (sym c.from-in-Truncated.ensures)) c.write_one-in-Truncated.ensures

pub returns-in-TooMany : goal.returns-in-TooMany
returns-in-TooMany g c =
    puts_same c.write_one-in-TooMany.result _ _ _ _ (ap refusal_line c.in-TooMany.is ∙ ap (with_one (codes "mp5: capture 9 ")) (sym c.from-in-TooMany.ensures)) c.write_one-in-TooMany.ensures
