use Rattle.packet_lines.proofs.Kept.{pool_open, line_open, put_kept}
use Rattle.packet_lines.proofs.lines.PacketLines.put.Goals as goal

pub come-requires-clause-room : goal.come-requires-clause-room
come-requires-clause-room c = pool_open _ _ _ _ _ c.self.invariant _ c.self.view_is c.args.packet c.args.line c.requires.arrival c.requires.absent c.requires.room c.requires.line

pub stand-requires-clause-room : goal.stand-requires-clause-room
stand-requires-clause-room c = line_open _ _ _ _ _ c.self.invariant _ c.self.view_is c.args.packet c.args.line c.requires.arrival c.requires.absent c.requires.room c.requires.line

pub invariant_of-self : goal.invariant_of-self
invariant_of-self c = put_kept _ _ _ _ _ c.self.invariant _ c.self.view_is c.args.packet c.args.line c.requires.arrival c.requires.absent c.requires.room c.requires.line
    _ _ _ _ _ c.self.inside.homes.ok.0 c.deref_mut.ensures.value c.come.ensures.more c.come.ensures.here c.stand.ensures
