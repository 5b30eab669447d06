use Rattle.std.proofs.Common.{◌∙◌, ap, sym, arith}
use Rattle.std.proofs.lemmas.List.{take_all}
use Rattle.round_plans.specs.Counting.{loads_with}
use Rattle.round_plans.proofs.CountLemmas.{with_none, place_now, counted_now, passed_now}
use Rattle.round_plans.proofs.counted.add_places.Goals as goal
use Rattle.round_plans.proofs.counted.add_places.Goals.{then-places-g-gt0, else-places-g-gt0}

pub loop-g-init : goal.loop-g-init
loop-g-init c = sym (with_none c.args.loads.now)

pub add-requires-clause-group : goal.add-requires-clause-group
add-requires-clause-group c =
    (place_now c.args.loads.now c.loop-g.loads c.args.places.now c.loop-g.g c.loop-g.invariant (omega arith) c.requires (omega arith)).group

pub add-requires-clause-unit : goal.add-requires-clause-unit
add-requires-clause-unit c =
    (place_now c.args.loads.now c.loop-g.loads c.args.places.now c.loop-g.g c.loop-g.invariant (omega arith) c.requires (omega arith)).unit

pub add-requires-clause-few : goal.add-requires-clause-few
add-requires-clause-few c =
    (place_now c.args.loads.now c.loop-g.loads c.args.places.now c.loop-g.g c.loop-g.invariant (omega arith) c.requires (omega arith)).few

pub loop-g-preserved : goal.loop-g-preserved
loop-g-preserved c = elim c.if-places-g-gt0.branch [
  | then-places-g-gt0 w ↦
      counted_now c.args.loads.now c.loop-g.loads c.args.places.now c.loop-g.g c.loop-g.invariant (omega arith) c.requires c.if-places-g-gt0.loads w.if-places-g-gt0.true (w.loads-is ∙ w.add.ensures)
  | else-places-g-gt0 w ↦
      passed_now c.args.loads.now c.loop-g.loads c.args.places.now c.loop-g.g c.loop-g.invariant (omega arith) c.requires c.if-places-g-gt0.loads (λ some. (let none = w.if-places-g-gt0.false in omega (arith, none, some))) w.loads-is
]

pub returns : goal.returns
returns c = c.loop-g.invariant ∙ ap (loads_with c.args.loads.now) (take_all c.loop-g.g c.args.places.now (omega arith))
