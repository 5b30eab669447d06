use Rattle.std.proofs.Common.{◌≡◌, ◌∙◌, ap, arith, rules, replicate, None, Option}
use Rattle.pipe_parts.specs.declared.packet.Packet.{Packet}
use Rattle.pipe_parts.proofs.SlotStart.{new_seen, new_keeps}
use Rattle.pipe_parts.proofs.pool.PacketPool.new.Goals as goal

pub invariant_of-result : goal.invariant_of-result
invariant_of-result c =
    let all : c.loop-slot.slot ≡ c.args.room = omega arith in
    let none : c.in_ok-vec.field-0.items ≡ replicate c.args.arrivals 0 = search rules in
    let long = c.loop-slot.free.ok.0 in
    new_keeps c.args.arrivals c.args.room _ _ _ _ (c.loop-slot.invariant.slots ∙ ap (λ n. replicate {A = Option Packet} n None) all) none (omega (arith, c.loop-slot.invariant.known)) (λ i lt. c.loop-slot.invariant.free i (omega arith))
    c.requires.arrivals c.requires.room (omega (arith, c.loop-slot.invariant.more))

pub returns : goal.returns
returns c =
    let all : c.loop-slot.slot ≡ c.args.room = omega arith in
    let none : c.in_ok-vec.field-0.items ≡ replicate c.args.arrivals 0 = search rules in
    new_seen c.args.arrivals c.args.room 0 _ _ c.loop-slot.free.items (c.loop-slot.invariant.slots ∙ ap (λ n. replicate {A = Option Packet} n None) all) none
