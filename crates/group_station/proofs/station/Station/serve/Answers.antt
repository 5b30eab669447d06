use Rattle.std.proofs.Common.{◌≡◌, ◌∙◌, ◌≤◌, length, refl, ap, arith, length-set}
use Rattle.std.proofs.lemmas.List.{with_items_is}
use Rattle.group_station.proofs.ServedLemmas.{left_is, count_fits}
use Rattle.group_station.proofs.station.Station.serve.Goals as goal

pub overflow_add-index_mut : goal.overflow_add-index_mut
overflow_add-index_mut c =
    let few : c.index_mut.result.now ≤ 262144 = count_fits _ _ c.args.place c.index_mut.result.now c.self.view_is c.self.invariant.0 c.requires.ready c.index_mut.ensures.value in
    omega arith

pub invariant_of-self : goal.invariant_of-self
invariant_of-self c =
    let long : length c.serve_unit.new.hand ≡ c.self.inside.hand.len = ap length c.serve_unit.ensures.one ∙ length-set _ c.args.place.unit _ ∙ omega (arith, c.deref_mut.ensures.len) in
    let left = left_is _ _ c.args.place c.served.new.self _ _ c.serve_unit.new.hand _ c.self.inside.awaited c.args.env.now c.serve_unit.new.env c.serve_unit.result c.index_mut.result.now
    c.self.view_is c.self.invariant.0 c.self.invariant.1 c.requires.ready c.requires.fits c.served.ensures c.index_mut.ensures.value refl c.deref_mut.ensures.value
    (with_items_is c.self.inside.hand c.serve_unit.new.hand long) c.serve_unit.ensures in
    (left.laws, left.awaits)

pub returns : goal.returns
returns c =
    let long : length c.serve_unit.new.hand ≡ c.self.inside.hand.len = ap length c.serve_unit.ensures.one ∙ length-set _ c.args.place.unit _ ∙ omega (arith, c.deref_mut.ensures.len) in
    let left = left_is _ _ c.args.place c.served.new.self _ _ c.serve_unit.new.hand _ c.self.inside.awaited c.args.env.now c.serve_unit.new.env c.serve_unit.result c.index_mut.result.now
    c.self.view_is c.self.invariant.0 c.self.invariant.1 c.requires.ready c.requires.fits c.served.ensures c.index_mut.ensures.value refl c.deref_mut.ensures.value
    (with_items_is c.self.inside.hand c.serve_unit.new.hand long) c.serve_unit.ensures in
    record { fits = left.fits; touched = left.touched; station = left.station }
