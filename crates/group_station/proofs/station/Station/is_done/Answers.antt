use Rattle.std.proofs.Common.{refl, sym, ◌∙◌}
use Rattle.group_station.proofs.DoneLemmas.{awaited_at, first_at, none_at}
use Rattle.group_station.proofs.station.Station.is_done.Goals as goal

pub returns-then-is_some : goal.returns-then-is_some
returns-then-is_some c = awaited_at _ _ c.self.inside.awaited c.self.view_is c.self.invariant.1 (sym c.is_some.ensures ∙ c.if-is_some.true)

pub returns-in-Some : goal.returns-in-Some
returns-in-Some c =
    first_at _ _ c.self.inside.awaited c.floor.result _ c.in-Some.place c.self.view_is c.self.invariant.0 c.self.invariant.1 (sym c.is_some.ensures ∙ c.if-is_some.false)
    c.floor.ensures.least refl c.if-floor-end.false c.in-Some.ensures.some

pub returns-in-None : goal.returns-in-None
returns-in-None c =
    none_at _ _ c.self.inside.awaited c.floor.result _ c.self.view_is c.self.invariant.0 c.self.invariant.1 (sym c.is_some.ensures ∙ c.if-is_some.false)
    c.floor.ensures.least refl c.if-floor-end.false c.in-None.ensures.none
