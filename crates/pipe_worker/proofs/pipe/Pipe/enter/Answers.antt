use Rattle.std.proofs.Common.{◌∙◌, length, ap, arith}
use Rattle.std.proofs.lemmas.List.{with_items_is}
use Rattle.pipe_worker.proofs.EnterLemmas.{enter_absent, enter_room, enter_keeps, enter_did}
use Rattle.pipe_worker.proofs.pipe.Pipe.enter.Goals as goal

pub stand-requires-clause-absent : goal.stand-requires-clause-absent
stand-requires-clause-absent c =
    enter_absent _ c.args.self.now c.self.view_is c.self.invariant.0 c.requires.door c.requires.lined c.requires.can c.next_in-t.result.0 c.enter-packet.result c.next_in-t.ensures.arrival c.enter-packet.ensures.arrival

pub stand-requires-clause-room : goal.stand-requires-clause-room
stand-requires-clause-room c =
    enter_room _ c.args.self.now c.self.view_is c.self.invariant.0 c.requires.door c.requires.lined c.requires.can c.next_in-t.result.0 c.enter-packet.result c.next_in-t.ensures.arrival c.enter-packet.ensures.arrival

pub invariant_of-self : goal.invariant_of-self
invariant_of-self c = (
  enter_keeps _ c.args.self.now c.self.view_is c.self.invariant.0 c.requires.door c.requires.lined c.requires.can c.next_in-t.result.0 c.enter-packet.result c.next_in-t.ensures.arrival c.enter-packet.ensures.arrival
      c.next_in-t.new.door c.stand.new.packets c.tell_all.new.outbox c.next_in-t.ensures.door c.next_in-t.ensures.slots c.enter-packet.ensures.packet c.stand.ensures c.tell_all.ensures,
  ap length (with_items_is c.self.inside.slots c.enter-packet.new.room (omega arith)) ∙ omega arith,
  c.self.invariant.2,
)

pub returns : goal.returns
returns c =
    enter_did _ c.args.self.now c.self.view_is c.self.invariant.0 c.requires.door c.requires.lined c.requires.can c.next_in-t.result.0 c.enter-packet.result c.next_in-t.ensures.arrival c.enter-packet.ensures.arrival
    c.next_in-t.new.door c.stand.new.packets c.tell_all.new.outbox c.next_in-t.ensures.door c.next_in-t.ensures.slots c.enter-packet.ensures.packet c.stand.ensures c.tell_all.ensures c.enter-packet.ensures.start
