use Rattle.std.proofs.Common.{◌≡◌, ◌∙◌, length, sym, ap, arith}
use Rattle.std.proofs.lemmas.List.{with_items_is}
use Rattle.group_station.specs.Steps.{move_in}
use Rattle.group_station.specs.Holding.{awaited_by}
use Rattle.group_station.proofs.LeaveLemmas.{leaves_none_at, leaves_move_at, move_within, given_long}
use Rattle.group_station.proofs.station.Station.leave.Goals as goal

pub give_unit-gone-requires : goal.give_unit-gone-requires
give_unit-gone-requires c =
    let found = ap (move_in c.self.inside.group) (sym c.plan.ensures) ∙ sym c.move_in-found.ensures ∙ c.in-Some.is in
    let there = move_within _ _ c.args.owners.now c.in-Some.found c.self.view_is c.self.invariant.0 c.requires.owners c.requires.next found in
    omega (arith, there, c.deref_mut.ensures.len, ap length c.deref_mut.ensures.value)

pub invariant_of-self : goal.invariant_of-self
invariant_of-self c =
    let found = ap (move_in c.self.inside.group) (sym c.plan.ensures) ∙ sym c.move_in-found.ensures ∙ c.in-Some.is in
    let long : length c.give_unit-gone.new.hand ≡ c.self.inside.hand.len =
    ap length c.give_unit-gone.ensures.hand ∙ given_long c.self.inside.pipe c.deref_mut.result.now c.in-Some.found ∙ omega (arith, c.deref_mut.ensures.len) in
    let whole = with_items_is c.self.inside.hand c.give_unit-gone.new.hand long in
    let left = leaves_move_at _ _ c.args.owners.now c.in-Some.found c.deref_mut.result.now _ _ c.give_unit-gone.result c.self.view_is c.self.invariant.0 c.requires.owners c.requires.next c.requires.done
    found c.deref_mut.ensures.value (whole ∙ c.give_unit-gone.ensures.hand)
    (c.awaited_unit-self-inside.ensures ∙ ap (λ h. awaited_by c.self.inside.pipe h c.in-Some.found) c.deref.ensures.value) c.give_unit-gone.ensures.unit in
    (left.laws, left.awaits)

pub invariant_of-self-in-None : goal.invariant_of-self-in-None
invariant_of-self-in-None c =
    let none = ap (move_in c.self.inside.group) (sym c.plan.ensures) ∙ sym c.move_in-found.ensures ∙ c.in-None.is in
    leaves_none_at _ _ c.args.owners.now c.self.inside.awaited c.self.view_is c.self.invariant.0 c.self.invariant.1 c.requires.owners c.requires.next c.requires.done none

pub returns-in-Some : goal.returns-in-Some
returns-in-Some c =
    let found = ap (move_in c.self.inside.group) (sym c.plan.ensures) ∙ sym c.move_in-found.ensures ∙ c.in-Some.is in
    let long : length c.give_unit-gone.new.hand ≡ c.self.inside.hand.len =
    ap length c.give_unit-gone.ensures.hand ∙ given_long c.self.inside.pipe c.deref_mut.result.now c.in-Some.found ∙ omega (arith, c.deref_mut.ensures.len) in
    let whole = with_items_is c.self.inside.hand c.give_unit-gone.new.hand long in
    let left = leaves_move_at _ _ c.args.owners.now c.in-Some.found c.deref_mut.result.now _ _ c.give_unit-gone.result c.self.view_is c.self.invariant.0 c.requires.owners c.requires.next c.requires.done
    found c.deref_mut.ensures.value (whole ∙ c.give_unit-gone.ensures.hand)
    (c.awaited_unit-self-inside.ensures ∙ ap (λ h. awaited_by c.self.inside.pipe h c.in-Some.found) c.deref.ensures.value) c.give_unit-gone.ensures.unit in
    record { station = left.station; gone = left.gives }
