use Rattle.std.proofs.Common.{◌≡◌, ◌∙◌, ◌+◌, ◌-◌, length, take, drop, get_or, sym, ap, arith}
use Rattle.std.proofs.lemmas.List.{length-take-le}
use Rattle.domino_names.specs.declared.infos.ArrayInfo.{ArrayInfo}
use Rattle.report_text.specs.Report.{cell_count}
use Rattle.report_text.proofs.SumLemmas.{cells-here}
use Rattle.report_text.proofs.sums.array_cells.Goals as goal

pub returns : goal.returns
returns c =
    let infos = c.args.infos.now in
    let words = c.args.words.now in
    let array = c.args.array in
    let info = c.index-infos-array.result in
    let first = c.loop-info.first in
    let front : length (take array infos) ≡ array = length-take-le array infos (omega (arith, c.requires.array)) in
    let all : c.loop-info.info-index ≡ array = omega (arith, front, c.loop-info-test.false, c.loop-info.auto.info-index-end) in
    let before : first ≡ cell_count (take array infos) = c.loop-info.invariant ∙ ap (λ n. cell_count (take n infos)) all in
    let same : info.length ≡ (get_or infos array info).length = ap (λ (i : ArrayInfo). i.length) c.index-infos-array.is in
    let long : (first + (get_or infos array info).length) - first ≡ info.length = omega (arith, same) in
    ap (λ n. take n (drop first words)) long
    ∙ ap (λ n. take info.length (drop n words)) before
    ∙ sym (cells-here infos words array info c.requires.array c.index-infos-array.is)
