use Rattle.std.proofs.Common.{◌≡◌, ◌∙◌, length, ap, arith}
use Rattle.std.proofs.lemmas.List.{with_items_is}
use Rattle.pipe_worker.proofs.OfferLemmas.{room_there, taken_in}
use Rattle.pipe_worker.proofs.pipe.Pipe.take_in.Goals as goal

pub stand-requires-clause-room : goal.stand-requires-clause-room
stand-requires-clause-room c = room_there _ _ c.args.t c.arrive-packet.result.t c.self.view_is c.self.invariant.0 c.has.ensures.laws c.requires.room c.arrive-packet.ensures.arrival

pub invariant_of-self : goal.invariant_of-self
invariant_of-self c =
    let long : length c.arrive-packet.new.room ≡ c.self.inside.slots.len = omega arith in (
      taken_in _ _ c.args.t c.arrive-packet.result c.stand.new.packets c.self.view_is c.self.invariant.0 c.has.ensures.laws c.requires.room c.arrive-packet.ensures.arrival c.arrive-packet.ensures.packet
          c.requires.known c.stand.ensures,
      ap length (with_items_is c.self.inside.slots c.arrive-packet.new.room long) ∙ omega (arith, c.self.inside.slots.ok.0),
      c.self.invariant.2,
    )
