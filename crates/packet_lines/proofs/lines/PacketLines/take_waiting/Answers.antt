use Rattle.packet_lines.proofs.Kept.{waiting_kept}
use Rattle.packet_lines.proofs.lines.PacketLines.take_waiting.Goals as goal

pub invariant_of-self : goal.invariant_of-self
invariant_of-self c = waiting_kept _ _ _ _ _ c.self.invariant _ c.self.view_is c.args.t c.requires.here c.requires.waiting
    _ _ _ _ c.self.inside.homes.ok.0 c.deref_mut.ensures.value c.leave.ensures.less c.leave.ensures.gone
