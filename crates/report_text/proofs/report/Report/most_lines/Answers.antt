use Rattle.std.proofs.Common.{◌∙◌, ◌≤◌, ◌+◌, length, ap, subst, arith}
use Rattle.domino_tree.specs.declared.program.Program.{Program}
use Rattle.report_text.specs.Told.{Told}
use Rattle.report_text.proofs.WholeLemmas.{all-few}
use Rattle.report_text.proofs.report.Report.most_lines.Goals as goal

pub returns : goal.returns
returns c =
    let i = c.self.inside in
    let few = all-few i.checked.now i.code.now i.answer.now i.style in
    let cells = ap length c.as_slice.ensures.value in
    let plans = ap length c.as_slice-2.ensures.value in
    let entries = ap length c.as_slice-3.ensures.value in
    let fields = ap length c.as_slice-4.ensures ∙ ap (λ (p : Program). length p.packet.fields) c.program.ensures.program in
    let arrays = ap length c.arrays.ensures.arrays in
    subst (λ (t : Told). length t.lines ≤ c.from.result + length c.as_slice.result.now + (length c.as_slice-4.result.now + length c.arrays.result.now) + (length c.as_slice-2.result.now + length c.as_slice-3.result.now) + 1) c.self.view_is
    (omega (arith, few, cells, plans, entries, fields, arrays, c.from.ensures))
