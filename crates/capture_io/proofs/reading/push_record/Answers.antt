use Rattle.std.proofs.Common.{◌≡◌, ◌∙◌, ◌++◌, List, ℤ, true, map, ap, w32, to_z, of_z, rules}
use Rattle.std.specs.Prelude.{FitsSigned}
use Rattle.std.proofs.lemmas.Int.{to_z-of_z}
use Rattle.std.proofs.lemmas.Result.{on_ok_weaker}
use Rattle.capture_io.specs.ClassicCapture.{Record}
use Rattle.capture_io.specs.Header.{ipv4, arrival, value_in}
use Rattle.capture_io.proofs.Packets.{values-same}
use Rattle.capture_io.proofs.reading.push_record.Goals.{then-in_packet, else-in_packet}
use Rattle.capture_io.proofs.reading.push_record.Goals as goal

pub returns-clause-fields : goal.returns-clause-fields
returns-clause-fields c =
    let sources = c.args.sources.now in
    let original = c.args.stamp.original in
    let ip = ipv4 c.args.frame.now in
    let r : Record = record { timestamp = c.args.stamp.timestamp; original = original; frame = c.args.frame.now } in
    let passed : ℤ = to_z w32 (of_z w32 c.since.result) in
    let fits : FitsSigned w32 c.since.result = search rules in
    let since : passed ≡ arrival c.args.start r = to_z-of_z w32 c.since.result fits ∙ c.since.ensures in
    let looked_for : c.args.in_packet ≡ true → c.if-in_packet.packet.now ≡ ip = λ yes. elim c.if-in_packet.branch [ then-in_packet w ↦ cc (w.packet-is, w.ipv4-packet.ensures) | else-in_packet w ↦ absurd (cc (yes, w.if-in_packet.false)) ] in
    let same = values-same c.args.in_packet sources passed original c.if-in_packet.packet.now ip c.requires.wanted looked_for in
    on_ok_weaker c.push_fields.result (λ h. h ∙ ap (λ (ws : List ℤ). c.args.words.now.items ++ ws) (same ∙ ap (λ (z : ℤ). map (λ s. value_in s z original ip) sources) since)) c.push_fields.ensures.fields
