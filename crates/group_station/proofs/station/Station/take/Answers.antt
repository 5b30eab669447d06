use Rattle.std.proofs.Common.{◌≡◌, ◌∙◌, length, Some, refl, sym, ap, arith, length-set, is_some, slice_set, false}
use Rattle.std.proofs.lemmas.List.{with_items_is}
use Rattle.group_station.specs.Station.{held}
use Rattle.group_station.proofs.TakeLemmas.{taken_at}
use Rattle.group_station.proofs.station.Station.take.Goals as goal

pub invariant_of-self : goal.invariant_of-self
invariant_of-self c =
    let long : length c.put_unit.new.hand ≡ c.self.inside.hand.len = ap length c.put_unit.ensures ∙ length-set c.deref_mut.result.now c.args.unit.number (Some c.args.unit) ∙ omega (arith, c.deref_mut.ensures.len) in
    let away : is_some (held c.self.inside.hand.items c.args.unit.number) ≡ false =
    ap (λ h. is_some (held h c.args.unit.number)) (sym c.deref.ensures.value) ∙ sym c.is_held.ensures ∙ c.if-is_held.false in
    taken_at _ _ c.args.from c.args.unit c.self.inside.awaited _ _ c.self.view_is c.self.invariant.0 c.self.invariant.1 c.requires.fits away (c.if-not-is_next_own.ensures.0 refl).1
    (with_items_is c.self.inside.hand c.put_unit.new.hand long ∙ c.put_unit.ensures ∙ ap (λ h. slice_set h c.args.unit.number (Some c.args.unit)) c.deref_mut.ensures.value)
    c.still_awaited-self-inside.ensures
