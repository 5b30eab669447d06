use Rattle.std.proofs.Common.{sym, subst, arith}
use Rattle.domino_names.specs.Infos.{infos_of}
use Rattle.report_text.specs.Told.{HaveRoom}
use Rattle.report_text.proofs.ReportLemmas.{name-short}
use Rattle.report_text.proofs.sums.put_sums.Goals as goal

pub put_array_line-requires-clause-room : goal.put_array_line-requires-clause-room
put_array_line-requires-clause-room c =
    let room = c.put_field_line.new.into.room in
    subst (λ infos. HaveRoom infos room) (sym c.arrays.ensures.arrays) (λ k d less.
    let short = name-short (infos_of c.args.checked.now) k d less in
    omega (arith, short, c.requires.room, c.put_field_line.ensures.room))
