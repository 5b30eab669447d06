use Rattle.packet_lines.proofs.Kept.{first_is_here, first_counted, first_kept}
use Rattle.packet_lines.proofs.lines.PacketLines.take_first.Goals as goal

pub leave-requires-clause-here : goal.leave-requires-clause-here
leave-requires-clause-here c = first_is_here _ _ _ _ _ c.self.invariant _ c.self.view_is c.args.line _ _ c.requires c.in-Some.ensures.first

pub leave-requires-clause-counted : goal.leave-requires-clause-counted
leave-requires-clause-counted c = first_counted _ _ _ _ _ c.self.invariant _ c.self.view_is c.args.line _ _ c.requires c.in-Some.ensures.first _ c.deref_mut.ensures.value

pub invariant_of-self : goal.invariant_of-self
invariant_of-self c = first_kept _ _ _ _ _ c.self.invariant _ c.self.view_is c.args.line _ _ c.requires c.in-Some.ensures.first
    _ _ _ _ _ c.self.inside.homes.ok.0 c.deref_mut.ensures.value c.leave.ensures.less c.leave.ensures.gone c.in-Some.ensures.rest
