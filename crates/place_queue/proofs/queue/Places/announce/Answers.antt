use Rattle.std.proofs.Common.{◌<◌, subst, sym}
use Rattle.place_queue.specs.PlaceList.{PlaceList, count_of}
use Rattle.place_queue.proofs.KeepingLemmas.{spare_room}
use Rattle.place_queue.proofs.queue.Places.announce.Goals as goal

pub add-requires-clause-room : goal.add-requires-clause-room
add-requires-clause-room c =
    subst (λ (q : PlaceList). count_of q.unserved c.args.source < q.window) (sym c.raise-2.ensures)
    (spare_room _ _ _ _ _ c.args.source c.index.result.now c.self.view_is c.self.invariant c.requires.source c.index.ensures c.if-index-self.false)

pub returns-clause-room : goal.returns-clause-room
returns-clause-room c =
    rw c.in-Some.is (spare_room _ _ _ _ _ c.args.source c.index.result.now c.self.view_is c.self.invariant c.requires.source c.index.ensures c.if-index-self.false)
