use Rattle.std.proofs.Common.{arith, ◌≡◌, ◌∙◌, ◌/◌, ◌%◌, get_or, ap, refl}
use Rattle.std.proofs.lemmas.List.{get_or_read}
use Rattle.report_text.specs.AnswerLines.{serve_line}
use Rattle.report_text.proofs.EntryLemmas.{entry-line}
use Rattle.report_text.proofs.accesses.put_access.Goals as goal

pub returns-clause-text : goal.returns-clause-text
returns-clause-text c =
    let a = c.args.answer.now in
    let e = c.args.entry in
    let by : c.index.result.now ≡ get_or a.by.items e 0 = get_or_read a.by.items e _ c.requires.entry c.index.ensures 0 in
    let touched : c.index-2.result.now ≡ get_or a.touched.items e 0 = get_or_read a.touched.items e _ (let less = c.requires.entry in omega (arith, less, c.requires.trace.by, c.requires.trace.touched)) c.index-2.ensures 0 in
    entry-line c.args.checked.now c.args.code.now a e c.groups-groups.result (e / c.groups-groups.result) (e % c.groups-groups.result) c.named_unit-unit.result c.fields.result c.packet_at-fields.result.now c.put_serve.new.into.text c.groups-groups.ensures.count
    refl refl (c.fields.ensures.count ∙ c.requires.program.fields) c.packet_at-fields.ensures.words c.named_unit-unit.ensures c.requires.served
    (c.put_serve.ensures.text ∙ ap (λ x. serve_line (e / c.groups-groups.result) (e % c.groups-groups.result) c.named_unit-unit.result x c.index-2.result.now) by ∙ ap (serve_line (e / c.groups-groups.result) (e % c.groups-groups.result) c.named_unit-unit.result (get_or a.by.items e 0)) touched)
