use Rattle.std.proofs.Common.{◌+◌, sym, subst}
use Rattle.run_laws.specs.Run.{Run, run_of}
use Rattle.packet_steps.specs.Packet.{IsPacket}
use Rattle.packet_steps.specs.Heading.{HasNoPlace}
use Rattle.packet_steps.proofs.WayLemmas.{skipped}
use Rattle.packet_steps.proofs.run_data.RunData.skip.Goals as goal

pub returns-clause-packet : goal.returns-clause-packet
returns-clause-packet c =
    subst (λ (r : Run). IsPacket r record (c.args.packet.now) { g = c.args.packet.now.g + 1; env = c.run_block.new.env }) c.self.view_is
    (skipped (run_of c.self.inside.code.now c.self.inside.capture.now c.self.inside.settings) c.args.packet.now c.skip_group.new.env c.run_block.new.env c.self.invariant
    (subst (λ (r : Run). IsPacket r c.args.packet.now) (sym c.self.view_is) c.requires.packet)
    (subst (λ (r : Run). HasNoPlace r c.args.packet.now) (sym c.self.view_is) c.requires.group)
    c.skip_group.ensures c.run_block.ensures)
