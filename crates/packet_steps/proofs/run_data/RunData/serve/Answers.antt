use Rattle.std.proofs.Common.{◌≡◌, ℕ, ◌+◌, ◌∙◌, length, slice_set, refl, sym, ap, subst, arith}
use Rattle.pipe_parts.specs.declared.packet.Packet.{Packet}
use Rattle.run_laws.specs.Run.{Run, run_of, touched_of}
use Rattle.packet_steps.specs.Packet.{IsPacket}
use Rattle.packet_steps.proofs.ServingLemmas.{at_packet, fits_there, passes}
use Rattle.packet_steps.proofs.run_data.RunData.serve.Goals as goal

pub serve_group-requires-clause-fits : goal.serve_group-requires-clause-fits
serve_group-requires-clause-fits c =
    fits_there c.args.self.now c.args.packet.now c.args.station.now c.args.place (record { run_is = c.requires.run; group = c.requires.group; arrival = c.requires.place }) c.requires.packet

pub returns-clause-packet : goal.returns-clause-packet
returns-clause-packet c =
    let wide_by : length c.args.packet.now.by ≡ 16 = omega arith in
    let wide_touched : length c.args.packet.now.touched ≡ 16 = omega arith in
    let run : Run = run_of c.self.inside.code.now c.self.inside.capture.now c.self.inside.settings in
    let is : IsPacket run c.args.packet.now = subst (λ (r : Run). IsPacket r c.args.packet.now) (sym c.self.view_is) c.requires.packet in
    let run_is : c.args.station.now.run ≡ run = c.requires.run ∙ sym c.self.view_is in
    let after : Packet = record (c.args.packet.now) {
      g = c.args.packet.now.g + 1;
      env = c.run_block.new.env;
      by = slice_set c.args.packet.now.by c.args.packet.now.g c.pipe.result;
      touched = slice_set c.args.packet.now.touched c.args.packet.now.g c.serve_group.result;
    } in
    subst (λ (r : Run). IsPacket r after) c.self.view_is
    (passes run c.args.packet.now c.args.station.now c.args.place c.pipe.result c.serve_group.result c.serve_group.new.env c.run_block.new.env c.self.invariant is c.pipe.ensures.laws c.requires.ready
    (record { run_is = run_is; group = c.requires.group; arrival = c.requires.place }) wide_by wide_touched c.pipe.ensures.pipe c.serve_group.ensures.touched c.serve_group.ensures.fits c.run_block.ensures)

pub returns-clause-touched : goal.returns-clause-touched
returns-clause-touched c =
    ap (λ (set : ℕ). slice_set c.args.packet.now.touched c.args.packet.now.g set)
    (c.serve_group.ensures.touched
    ∙ at_packet (λ r t g. touched_of c.args.station.now.run c.args.place.t c.args.station.now.group ≡ touched_of r t g) c.args.self.now c.args.packet.now c.args.station.now c.args.place
    (record { run_is = c.requires.run; group = c.requires.group; arrival = c.requires.place }) refl)
