use Rattle.std.proofs.Common.{◌<◌, ◌∙◌, sym, ap, subst, length, refl, arith}
use Rattle.place_queue.specs.PlaceList.{PlaceList, next_place, IsNext}
use Rattle.place_queue.proofs.KeepingLemmas.{comes_next, is_next, first_of}
use Rattle.place_queue.proofs.queue.Places.next.Goals as goal

pub returns-then-place-self-clause-next : goal.returns-then-place-self-clause-next
returns-then-place-self-clause-next c =
    let p = c.in_ok-place.place.now in
    let some : 0 < length c.self.inside.unserved.items = omega (arith, c.in_ok-place.ensures.variant.0 refl) in
    let first = first_of c.self.inside.unserved.items p some c.in_ok-place.ensures.lookup in
    sym (ap next_place (sym c.self.view_is) ∙ comes_next record { sources = c.self.inside.sources; window = c.self.inside.window; arrivals = c.self.inside.arrivals; floors = c.self.inside.floors.items; unserved = c.self.inside.unserved.items } c.self.inside.least p first.0 first.1 c.self.invariant.least c.if-place-self.true)

pub returns-then-place-self-clause-some : goal.returns-then-place-self-clause-some
returns-then-place-self-clause-some c =
    let p = c.in_ok-place.place.now in
    let some : 0 < length c.self.inside.unserved.items = omega (arith, c.in_ok-place.ensures.variant.0 refl) in
    let first = first_of c.self.inside.unserved.items p some c.in_ok-place.ensures.lookup in
    subst (λ (q : PlaceList). IsNext q p) c.self.view_is (is_next _ _ p first.0 first.1 c.self.invariant.least c.if-place-self.true)
