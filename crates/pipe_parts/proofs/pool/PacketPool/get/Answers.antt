use Rattle.std.proofs.Common.{◌<◌, arith, ◌∙◌}
use Rattle.pipe_parts.proofs.SlotLemmas.{are_packets, slot_there, slot_read}
use Rattle.pipe_parts.proofs.pool.PacketPool.get.Goals as goal

pub index-requires-in_default : goal.index-requires-in_default
index-requires-in_default c =
    let some : 0 < c.index.result.now = omega (arith, c.in_default) in
    let there = slot_there _ _ _ _ c.self.invariant _ c.self.view_is c.args.t _ c.requires c.index.ensures some in
    let long = c.self.inside.slots.ok.0 in
    omega arith

pub returns-in-0-clause-laws : goal.returns-in-0-clause-laws
returns-in-0-clause-laws c = are_packets _ _ _ _ c.self.invariant _ c.self.view_is

pub returns-in_default-clause-laws : goal.returns-in_default-clause-laws
returns-in_default-clause-laws c = are_packets _ _ _ _ c.self.invariant _ c.self.view_is

pub returns-in_default-clause-packet : goal.returns-in_default-clause-packet
returns-in_default-clause-packet c =
    let some : 0 < c.index.result.now = omega (arith, c.in_default) in
    c.as_ref.ensures.value ∙ slot_read _ _ _ _ c.self.invariant _ c.self.view_is c.args.t _ _ c.requires c.index.ensures some c.index-in_default.ensures
