use Rattle.std.proofs.Common.{SFits, w32, rules, ◌≡◌, ◌∙◌, length, get_or, ap, codes, arith}
use Rattle.std.proofs.lemmas.Int.{to_z-of_z}
use Rattle.capture_io.specs.Rows.{rows}
use Rattle.report_text.specs.Report.{sum_line}
use Rattle.report_text.proofs.SumLemmas.{fields-long, field-found, field-short}
use Rattle.report_text.proofs.sums.put_field_line.Goals as goal

pub returns-then-k-count-clause-line : goal.returns-then-k-count-clause-line
returns-then-k-count-clause-line c =
    let a = c.args.answer.now in
    let all = fields-long c.args.names.now 0 (rows a.arrivals (length c.args.names.now) a.packets.items) in
    (omega (arith, all, c.if-k-count.true), c.requires.empty)

pub put_field-requires-clause-room : goal.put_field-requires-clause-room
put_field-requires-clause-room c =
    let name = c.index-names-field.result in
    let short = field-short c.args.names.now c.args.k name c.if-k-count.false in
    let same : length name ≡ length (get_or c.args.names.now c.args.k name) = ap length c.index-names-field.is in
    omega (arith, short, same, c.requires.room)

pub returns-clause-line : goal.returns-clause-line
returns-clause-line c =
    let a = c.args.answer.now in
    let name = c.index-names-field.result in
    let fits : SFits w32 c.field_sum-sum.result = search rules in
    field-found c.args.names.now 0 c.args.k c.args.k name (rows a.arrivals (length c.args.names.now) a.packets.items) c.put_field.new.into.text (omega arith) c.if-k-count.false c.index-names-field.is
    (c.put_field.ensures.text ∙ ap (sum_line (codes "field ") name) (to_z-of_z w32 c.field_sum-sum.result fits ∙ c.field_sum-sum.ensures))
