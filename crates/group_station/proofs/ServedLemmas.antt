-- What serving leaves: of the environment, the touched arrays and the station.
use Rattle.std.proofs.Common.{◌≡◌, ◌≢◌, ℕ, suc, ◌+◌, ◌<◌, ◌≤◌, ℤ, List, [], length, slice_index, slice_set, drop, Option, Some, None, sym, ap, subst, ◌∙◌, arith, get_or-set_other}
use Rattle.std.specs.List.{slice_index_or}
use Rattle.std.proofs.lemmas.Grind.{get_or_default_zero}
use Rattle.std.proofs.lemmas.List.Elements.{All-get_or}
use Rattle.code_forms.specs.declared.unit.Unit.{Unit as PlacedUnit}
use Rattle.code_forms.specs.Staged.{Fits, group_start, block_start}
use Rattle.code_forms.specs.StagedMeaning.{IsPlaced}
use Rattle.place_queue.specs.declared.place.Place.{Place}
use Rattle.place_queue.specs.PlaceList.{PlaceList}
use Rattle.run_laws.specs.Run.{arrivals, header_at, values_of, touched_of, units_before}
use Rattle.run_laws.proofs.RunLemmas.{units_step}
use Rattle.group_station.specs.Station.{Station, site, in_hand, IsFront, AreLaws, IsOfRun, IsStation, IsAwaited}
use Rattle.group_station.specs.Steps.{IsReady, unit_before, after_serving}
use Rattle.group_station.specs.Holding.{ServesOne}
use Rattle.group_station.proofs.LawLemmas.{front_within, counted_few}
use Rattle.group_station.proofs.ServeLemmas.{given_there, unit_in, cells_there, still_away, serve_station}

-- what serving leaves
pub record Served (s : Station) (p : Place) (new : List ℤ) (units : List (Option PlacedUnit)) (set : ℕ) : Type 0 where
  pub hand : units ≡ slice_set s.hand p.unit (Some (unit_before s (p.t + 1) p.unit))
  pub fits : Fits s.run.code (values_of s.run p.t) (block_start s.run.code (s.group + 1)) new
  pub touched : set ≡ touched_of s.run p.t s.group

module _ (s : Station) (f : ℕ) (p : Place) (of_run : IsOfRun (site s) s.queue) (front : IsFront s.queue f) (old : AreLaws s f) (ready : IsReady s p)
    (before after : List ℤ) (hand : List (Option PlacedUnit)) (set : ℕ) (one : ServesOne s.run.code s.group p.unit before after s.hand hand set)
    (fits : Fits s.run.code (values_of s.run p.t) (group_start s.run.code s.group) before) where
  there : p.t < arrivals s.run
  there = (given_there s f p of_run front old ready).there

  long : length (header_at s.run p.t) ≡ s.run.code.fields
  long = All-get_or (λ header. length header ≡ s.run.code.fields) s.run.headers p.t [] there of_run.wide

  was : (one.unit.group ≡ s.group) × (one.unit.number ≡ p.unit) × (one.unit.cells ≡ units_before s.run p.t s.group p.unit)
  was = cells_there s f p of_run front old ready one.unit one.there

  placed : IsPlaced s.run.code s.group one.unit.number one.unit.cells (header_at s.run p.t) (units_before s.run p.t)
  placed = (
    (given_there s f p of_run front old ready).place ∙ ap (λ (u : ℕ). Some u) (sym was.1),
    ap (units_before s.run p.t s.group) was.1 ∙ sym was.2,
  )

  now_cells : one.now.cells ≡ units_before s.run (p.t + 1) s.group p.unit
  now_cells =
      let next : suc p.t ≡ p.t + 1 = omega arith in
      one.cells (header_at s.run p.t) (units_before s.run p.t) long placed fits
      ∙ (λ i. sym (units_step s.run p.t there) i s.group (was.1 i))
      ∙ ap (λ n. units_before s.run n s.group p.unit) next

  now_unit : one.now ≡ unit_before s (p.t + 1) p.unit
  now_unit = (λ i. record { group = (one.group ∙ was.0) i; number = (one.number ∙ was.1) i; cells = now_cells i })

  pub served_is : Served s p after hand set
  served_is = record {
    hand = one.one ∙ ap (λ (unit : PlacedUnit). slice_set s.hand p.unit (Some unit)) now_unit;
    fits = one.env (header_at s.run p.t) (units_before s.run p.t) long placed fits;
    touched = one.touched (header_at s.run p.t) (units_before s.run p.t) long placed fits;
  }

-- the count of the unit is below the number of arrivals
pub count_fits : (s now : Station) (p : Place) (n : ℕ) → s ≡ now → IsStation s → IsReady now p → n ≡ slice_index_or s.served p.unit n → n ≤ 262144
count_fits s now p n e station told read =
    let ready : IsReady s p = subst (λ (r : Station). IsReady r p) (sym e) told in
    let in' = unit_in s station.front p station.of_run station.is_front station.laws ready in
    let wide = station.laws.units.wide in
    let long = station.laws.counts.wide in
    let is : n ≡ slice_index s.served p.unit = read ∙ get_or_default_zero s.served p.unit n (omega arith) in
    let few = counted_few _ station.front (slice_index s.served p.unit) (station.laws.counts.counts p.unit (omega arith)) in
    let within = front_within (site s) s.queue station.front station.of_run station.is_front in
    let all = station.of_run.arrivals in
    let limit = station.of_run.listed.arrivals in
    omega arith

-- the station that is left, from what the fields hold
pub record Left (s now : Station) (p : Place) (q : PlaceList) (hand : List (Option PlacedUnit)) (counts : List ℕ) (awaited : Option ℕ) (after : List ℤ) (set : ℕ) : Type 0 where
  pub station : ◌≡◌ {A = Station} (record s { queue = q; hand = hand; served = counts }) (after_serving now p)
  pub laws : IsStation (record s { queue = q; hand = hand; served = counts })
  pub awaits : IsAwaited (record s { queue = q; hand = hand; served = counts }) awaited
  pub fits : Fits now.run.code (values_of now.run p.t) (block_start now.run.code (now.group + 1)) after
  pub touched : set ≡ touched_of now.run p.t now.group

still_awaited : (s : Station) (f : ℕ) (p : Place) (awaited : Option ℕ) → (of_run : IsOfRun (site s) s.queue) → (front : IsFront s.queue f) → (old : AreLaws s f) → (ready : IsReady s p) → IsAwaited s awaited → IsAwaited (after_serving s p) awaited
still_awaited s f p awaited of_run front old ready h = record {
  told = λ u within owns away. h.told u within owns (still_away s f p of_run front old ready u away).1;
  away = λ u e. (let was = h.away u e in (was.0, was.1, get_or-set_other s.hand p.unit u (Some (unit_before s (p.t + 1) p.unit)) None (other u was.2) ∙ was.2));
}
  where
    other : (u : ℕ) → in_hand s u ≡ None → u ≢ p.unit
    other u none e =
        let away : in_hand s p.unit ≡ None = subst (λ n. in_hand s n ≡ None) e none in
        let here = ready.unit in
        absurd (cc)

pub left_is : (s now : Station) (p : Place) (q : PlaceList) (hand first last : List (Option PlacedUnit)) (counts : List ℕ) (awaited : Option ℕ) (before after : List ℤ) (set n : ℕ) → s ≡ now → IsStation s → IsAwaited s awaited → IsReady now p
    → Fits now.run.code (values_of now.run p.t) (group_start now.run.code now.group) before
    → q ≡ record (s.queue) { unserved = drop 1 s.queue.unserved } → n ≡ slice_index_or s.served p.unit n → counts ≡ slice_set s.served p.unit (n + 1)
    → first ≡ s.hand → hand ≡ last → ServesOne s.run.code s.group p.unit before after first last set → Left s now p q hand counts awaited after set
left_is s now p q hand first last counts awaited before after set n e station awaits told fits served read counted begun ended one = subst (λ (r : Station). Left s r p q hand counts awaited after set) e (record {
  station = is;
  laws = subst (λ (r : Station). IsStation r) (sym is) (serve_station s station.front p station.of_run station.is_front station.laws ready);
  awaits = subst (λ (r : Station). IsAwaited r awaited) (sym is) (still_awaited s station.front p awaited station.of_run station.is_front station.laws ready awaits);
  fits = done.fits;
  touched = done.touched;
})
  where
    ready : IsReady s p
    ready = subst (λ (r : Station). IsReady r p) (sym e) told

    fits_here : Fits s.run.code (values_of s.run p.t) (group_start s.run.code s.group) before
    fits_here = subst (λ (r : Station). Fits r.run.code (values_of r.run p.t) (group_start r.run.code r.group) before) (sym e) fits

    done : Served s p after last set
    done = served_is s station.front p station.of_run station.is_front station.laws ready before after last set
        (subst (λ (h : List (Option PlacedUnit)). ServesOne s.run.code s.group p.unit before after h last set) begun one) fits_here

    in' : p.unit < length s.served
    in' =
        let here = unit_in s station.front p station.of_run station.is_front station.laws ready in
        let wide = station.laws.units.wide in
        let long = station.laws.counts.wide in
        omega arith

    more : counts ≡ slice_set s.served p.unit (slice_index s.served p.unit + 1)
    more = counted ∙ ap (λ m. slice_set s.served p.unit (m + 1)) (read ∙ get_or_default_zero s.served p.unit n in')

    is : ◌≡◌ {A = Station} (record s { queue = q; hand = hand; served = counts }) (after_serving s p)
    is = (λ i. record s { queue = served i; hand = (ended ∙ done.hand) i; served = more i })
