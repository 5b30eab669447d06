use Rattle.std.proofs.Common.{SFits, w32, rules, ◌∙◌, get_or, sym, ap, codes, arith}
use Rattle.std.proofs.lemmas.Int.{to_z-of_z}
use Rattle.mp5_words.specs.Cells.{cells_at}
use Rattle.domino_names.specs.declared.infos.ArrayInfo.{ArrayInfo}
use Rattle.switch_net.specs.Marks.{word_sum}
use Rattle.report_text.specs.Report.{cells_in, sum_line}
use Rattle.report_text.proofs.SumLemmas.{arrays-long, array-found}
use Rattle.report_text.proofs.sums.put_array_line.Goals as goal

pub returns-then-k-count-clause-line : goal.returns-then-k-count-clause-line
returns-then-k-count-clause-line c =
    let all = arrays-long c.args.infos.now c.args.words.now in
    (omega (arith, all, c.if-k-count.true), c.requires.empty)

pub returns-clause-line : goal.returns-clause-line
returns-clause-line c =
    let infos = c.args.infos.now in
    let info = c.index-infos-array.result in
    let sum = c.word_sum-sum.result in
    let fits : SFits w32 sum = search rules in
    array-found infos c.args.k info c.args.words.now c.put_array.new.into.text c.if-k-count.false c.index-infos-array.is
    (c.put_array.ensures.text
    ∙ ap (sum_line (codes "array ") (get_or infos c.args.k info).name) (to_z-of_z w32 sum fits ∙ c.word_sum-sum.ensures ∙ ap word_sum c.array_cells.ensures)
    ∙ ap (λ (i : ArrayInfo). sum_line (codes "array ") i.name (word_sum (cells_at (cells_in infos c.args.words.now) c.args.k))) (sym c.index-infos-array.is))
