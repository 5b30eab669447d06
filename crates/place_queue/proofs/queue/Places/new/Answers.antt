use Rattle.std.proofs.Common.{◌≡◌, ◌≤◌, ◌*◌, ◌∙◌, replicate, deque_capacity, arith, rules, ap}
use Rattle.place_queue.specs.PlaceList.{first_floors}
use Rattle.place_queue.proofs.KeepingLemmas.{new_keeps}
use Rattle.place_queue.proofs.queue.Places.new.Goals as goal

pub invariant_of-result : goal.invariant_of-result
invariant_of-result c =
    let all : c.loop-source.source ≡ c.args.sources = omega arith in
    let none : c.in_ok-vec.field-0.items ≡ replicate c.args.sources 0 = search rules in
    let room : c.args.sources * c.args.window ≤ deque_capacity c.in_ok-with_capacity.field-0 = omega (arith, c.in_ok-with_capacity.ensures.exact) in
    rw c.in_ok-with_capacity.ensures.items
    (new_keeps c.args.sources c.args.window c.args.arrivals _ _ _ c.requires.some c.requires.sources c.requires.window c.requires.arrivals
    (c.loop-source.invariant.floors ∙ ap (λ n. first_floors n c.args.arrivals) all) none room)
