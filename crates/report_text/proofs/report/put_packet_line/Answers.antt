use Rattle.std.proofs.Common.{◌∙◌, length, map, ap, arith}
use Rattle.report_text.specs.Report.{label, packet_line}
use Rattle.report_text.proofs.ReportLemmas.{packet-count, row-found}
use Rattle.report_text.proofs.report.put_packet_line.Goals as goal

pub returns-then-k-count-clause-line : goal.returns-then-k-count-clause-line
returns-then-k-count-clause-line c =
    let all = packet-count (map label c.args.names.now) c.args.answer.now.arrivals (length c.args.names.now) c.args.answer.now.packets.items in
    (omega (arith, all, c.from-count.ensures, c.if-k-count.true), c.requires.empty)

pub returns-clause-line : goal.returns-clause-line
returns-clause-line c =
    row-found (map label c.args.names.now) c.args.answer.now.arrivals (length c.args.names.now) c.args.answer.now.packets.items c.args.k c.put_packet.new.into.text (omega (arith, c.from-count.ensures, c.if-k-count.false))
    (c.put_packet.ensures.text ∙ ap (packet_line (map label c.args.names.now) c.args.k) c.packet_at.ensures.words)
