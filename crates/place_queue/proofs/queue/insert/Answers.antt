use Rattle.std.proofs.Common.{nat_lt, ◌∙◌, rules, of_calls, arith}
use Rattle.std.proofs.lemmas.Fn.{always_returns_same}
use Rattle.place_queue.specs.declared.place.Place.{Place}
use Rattle.place_queue.proofs.Ordering.{in_order_parted, inserted}
use Rattle.place_queue.proofs.queue.insert.Goals as goal

pub returns-clause-places : goal.returns-clause-places
returns-clause-places c =
    c.in-Ok.ensures.items
    ∙ inserted c.args.place c.args.places.now.items c.partition_point-rank.result (omega arith)
    (c.partition_point-rank.ensures.partitioned (λ (q : Place). nat_lt q.t c.args.place.t) (always_returns_same _ _ _ (λ a r f k. search (rules, of_calls))) (in_order_parted c.args.place.t c.args.places.now.items c.requires.order))
