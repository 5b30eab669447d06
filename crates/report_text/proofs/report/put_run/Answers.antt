use Rattle.std.proofs.Common.{◌∙◌, length, sym, ap, subst, arith}
use Rattle.domino_names.specs.Infos.{infos_of}
use Rattle.report_text.specs.Report.{cell_count}
use Rattle.report_text.specs.Told.{HaveRoom}
use Rattle.report_text.proofs.ReportLemmas.{name-short}
use Rattle.report_text.proofs.report.put_run.Goals as goal

pub put_line-requires-clause-cells : goal.put_line-requires-clause-cells
put_line-requires-clause-cells c = ap length c.deref.ensures.value ∙ c.requires.cells ∙ ap cell_count (sym c.arrays.ensures.arrays)

pub put_line-requires-clause-room : goal.put_line-requires-clause-room
put_line-requires-clause-room c =
    let room = c.put_packet_line.new.into.room in
    subst (λ infos. HaveRoom infos room) (sym c.arrays.ensures.arrays) (λ k d less.
    let short = name-short (infos_of c.args.checked.now) k d less in
    omega (arith, short, c.requires.room, c.put_packet_line.ensures.room))
