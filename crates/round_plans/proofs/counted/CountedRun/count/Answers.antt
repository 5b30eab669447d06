use Rattle.std.proofs.Common.{◌≡◌, ◌+◌, ◌<◌, ◌∙◌, length, ap, sym, subst, arith}
use Rattle.std.proofs.lemmas.List.{with_items_is}
use Rattle.run_laws.specs.Run.{Run, run_of, arrivals}
use Rattle.run_laws.specs.LawfulPlans.{loads_below}
use Rattle.round_plans.specs.Counting.{Counted}
use Rattle.round_plans.proofs.ArrivalLemmas.{arrival_places, arrival_counted}
use Rattle.round_plans.proofs.counted.CountedRun.count.Goals as goal

pub add_places-requires : goal.add_places-requires
add_places-requires c =
    let run : Run = run_of c.self.inside.code.now c.self.inside.capture.now c.self.inside.settings in
    let turn : c.args.t ≡ c.self.inside.below = c.requires.next ∙ sym (ap (λ (x : Counted). x.below) c.self.view_is) in
    let there : c.args.t < arrivals run = subst (λ (x : Counted). c.args.t < arrivals x.run) (sym c.self.view_is) c.requires.within in
    let is : c.self.inside.loads ≡ loads_below run c.args.t = c.self.invariant.loads_are ∙ ap (loads_below run) (sym turn) in
    arrival_places run c.args.t c.header.result.now c.self.inside.loads c.places.new.out c.self.invariant.well.few there is c.header.ensures (omega arith)
    c.places.ensures.few c.places.ensures.places c.places.ensures.rest c.places.ensures.units

pub invariant_of-self : goal.invariant_of-self
invariant_of-self c =
    let run : Run = run_of c.self.inside.code.now c.self.inside.capture.now c.self.inside.settings in
    let turn : c.args.t ≡ c.self.inside.below = c.requires.next ∙ sym (ap (λ (x : Counted). x.below) c.self.view_is) in
    let there : c.args.t < arrivals run = subst (λ (x : Counted). c.args.t < arrivals x.run) (sym c.self.view_is) c.requires.within in
    let is : c.self.inside.loads ≡ loads_below run c.args.t = c.self.invariant.loads_are ∙ ap (loads_below run) (sym turn) in
    record {
      well = c.self.invariant.well;
      last_is = c.self.invariant.last_is;
      within = omega (arith, turn, there);
      loads_are =
          arrival_counted run c.args.t c.header.result.now c.self.inside.loads c.places.new.out c.self.invariant.well.few there is c.header.ensures (omega arith)
          c.places.ensures.few c.places.ensures.places c.places.ensures.rest c.places.ensures.units c.add_places.new.loads c.add_places.ensures
          ∙ ap (λ n. loads_below run (n + 1)) turn;
      room = ap length (with_items_is c.self.inside.slots c.places.new.room (omega arith)) ∙ omega (arith, c.self.invariant.room);
    }
