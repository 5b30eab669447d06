use Rattle.std.proofs.Common.{rules, ◌≡◌, ◌<◌, ◌-◌, ◌+◌, ◌*◌, length, sym, ap, ◌∙◌, arith}
use Rattle.capture_io.proofs.PacketRows.{length-rows, slice_get-rows, row_within}
use Rattle.capture_io.proofs.capture.Capture.header.Goals as goal

pub slice_bounds-result-end : goal.slice_bounds-result-end
slice_bounds-result-end c =
    let inside = c.self.inside in
    let count : length c.args.self.now ≡ inside.packets = ap length (sym c.self.view_is) ∙ length-rows inside.packets inside.width inside.words.items in
    let within = row_within c.args.t inside.packets inside.width (omega (arith, c.requires, count)) in
    search rules

pub returns : goal.returns
returns c =
    let inside = c.self.inside in
    let count : length c.args.self.now ≡ inside.packets = ap length (sym c.self.view_is) ∙ length-rows inside.packets inside.width inside.words.items in
    let here : c.args.t < inside.packets = omega (arith, c.requires, count) in
    let width : c.args.t * inside.width + inside.width - c.args.t * inside.width ≡ inside.width = omega arith in
    rw (width, ← c.self.view_is, c.deref.ensures.value) (slice_get-rows inside.packets inside.width inside.words.items c.args.t here)
