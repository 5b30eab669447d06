use Rattle.pipe_parts.proofs.SlotLemmas.{are_packets, here_read}
use Rattle.pipe_parts.proofs.pool.PacketPool.has.Goals as goal

pub returns-clause-laws : goal.returns-clause-laws
returns-clause-laws c = are_packets _ _ _ _ c.self.invariant _ c.self.view_is

pub returns-clause-here : goal.returns-clause-here
returns-clause-here c = here_read _ _ _ _ c.self.invariant _ c.self.view_is c.args.t _ c.requires c.index.ensures
