use Rattle.pipe_parts.proofs.SlotMoves.{comes_kept, comes_seen}
use Rattle.pipe_parts.proofs.pool.PacketPool.put.Goals as goal

pub invariant_of-self : goal.invariant_of-self
invariant_of-self c = comes_kept _ _ _ _ _ _ _ c.args.packet c.self.invariant c.in-Some.ensures.items c.in-Some.ensures.capacity _ c.self.view_is c.requires.arrival c.requires.absent

pub returns : goal.returns
returns c = comes_seen _ _ _ _ _ _ _ c.args.packet c.self.invariant c.in-Some.ensures.items c.in-Some.ensures.capacity _ c.self.view_is c.requires.arrival c.requires.absent
