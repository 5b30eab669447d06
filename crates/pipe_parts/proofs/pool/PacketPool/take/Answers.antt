use Rattle.std.proofs.Common.{arith, ◌∙◌, sym}
use Rattle.pipe_parts.proofs.SlotMoves.{goes_there, goes_out, goes_kept, goes_seen}
use Rattle.pipe_parts.proofs.pool.PacketPool.take.Goals as goal

pub index_mut-requires-2 : goal.index_mut-requires-2
index_mut-requires-2 c =
    let there = goes_there _ _ _ _ _ c.args.t c.self.invariant _ c.self.view_is c.requires c.index.ensures in
    let long = c.self.inside.slots.ok.0 in
    omega arith

pub invariant_of-self : goal.invariant_of-self
invariant_of-self c = goes_kept _ _ _ _ _ c.args.t c.self.invariant _ c.self.view_is c.requires c.index.ensures _ _ _ c.take.ensures.after c.push_reserved.ensures.items c.push_reserved.ensures.capacity

pub returns-clause-gone : goal.returns-clause-gone
returns-clause-gone c = goes_seen _ _ _ _ _ c.args.t c.self.invariant _ c.self.view_is c.requires c.index.ensures _ c.take.ensures.after

pub returns-clause-packet : goal.returns-clause-packet
returns-clause-packet c = goes_out _ _ _ _ _ c.args.t c.self.invariant _ c.self.view_is c.requires c.index.ensures _ c.index_mut-2.ensures.value ∙ sym c.take.ensures.value ∙ c.in-Some.is
