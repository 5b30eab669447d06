use Rattle.std.proofs.Common.{arith}
use Rattle.place_queue.proofs.KeepingLemmas.{has_room, add_keeps, placed_at}
use Rattle.place_queue.proofs.queue.Places.add.Goals as goal

pub insert-requires-clause-room : goal.insert-requires-clause-room
insert-requires-clause-room c =
    let room = placed_at _ _ c.args.place c.self.view_is (c.requires.announced, c.requires.new, c.requires.room)
    (λ known new few. has_room _ _ _ _ c.args.place.source c.self.invariant known.source few) in
    omega arith

pub invariant_of-self : goal.invariant_of-self
invariant_of-self c =
    rw (c.insert.ensures.places)
    (placed_at _ _ c.args.place c.self.view_is (c.requires.announced, c.requires.new, c.requires.room)
    (λ known new few. add_keeps _ _ _ _ _ c.index_mut.result.now c.args.place c.self.invariant c.index_mut.ensures.value known new few c.insert.ensures.room))
