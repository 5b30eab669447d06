-- When all that belongs to the present round is done.
use Rattle.std.proofs.Common.{◌≡◌, ℕ, ◌+◌, ◌-◌, ◌*◌, ◌<◌, ◌≤◌, Bool, true, false, not, List, [], ◌∷◌, length, slice_index, Option, Some, None, IsSome, is_some, refl, sym, subst, arith, le-div_iff_mul-le, div-le_self, leb, le-leb, leb-true, IsTrue, ◌↔◌}
use Rattle.std.specs.List.{All}
use Rattle.std.proofs.lemmas.List.Elements.{All-nil, All-cons, All-head, All-weaker}
use Rattle.code_forms.specs.declared.unit.Unit.{Unit as PlacedUnit}
use Rattle.place_queue.specs.declared.place.Place.{Place}
use Rattle.place_queue.specs.PlaceList.{PlaceList, IsPlaceList, IsInOrder, IsLeast, IsNext, HasNone}
use Rattle.run_laws.specs.Run.{arrivals}
use Rattle.group_station.specs.Station.{Station, site, width, in_hand, OwnsIn, round_end, IsStation, IsAwaited}
use Rattle.group_station.specs.Steps.{HasAllUnits, IsRoundDone}
use Rattle.group_station.proofs.LawLemmas.{some_arrivals}

-- ---- rounds are small numbers

pub round_small : (s : Station) → IsStation s → s.round ≤ 262144
round_small s station =
    let last = station.laws.rounds.last in
    let limit = station.of_run.listed.arrivals in
    let all = station.of_run.arrivals in
    let less = div-le_self (arrivals s.run - 1) s.run.settings.round in
    omega arith

pub end_small : (s : Station) → IsStation s → (s.round + 1) * s.run.settings.round ≤ 327680
end_small s station =
    let limit = station.of_run.listed.arrivals in
    let all = station.of_run.arrivals in
    let most = s.run.settings.most_round in
    let below : s.round * s.run.settings.round ≤ arrivals s.run - 1 = (le-div_iff_mul-le (some_arrivals (site s))).0 station.laws.rounds.last in
    let next : (s.round + 1) * s.run.settings.round ≡ s.round * s.run.settings.round + s.run.settings.round = omega arith in
    omega arith

-- ---- the three tests

pub not_awaited : (s : Station) (awaited : Option ℕ) → IsAwaited s awaited → IsSome awaited → IsRoundDone s → ⊥
not_awaited s None h some done = absurd (cc)
not_awaited s (Some u) h some done =
    let was = h.away u refl in
    let here = done.units u was.0 was.1 in
    let none : in_hand s u ≡ None = was.2 in
    absurd (cc)

pub floors_low : (s : Station) (least n : ℕ) → IsLeast s.queue.floors least → n ≡ round_end s → least < n → IsRoundDone s → ⊥
floors_low s least n h is low done =
    let above = done.floors h.reached.0 h.reached.1 in
    let at = h.reached.2 in
    absurd (omega arith)

-- all places are from the first on
from_first : (n : ℕ) (p : Place) (ps : List Place) → IsInOrder (p ∷ ps) → n ≤ p.t → All (λ (r : Place). n ≤ r.t) (p ∷ ps)
from_first n p ps order low = All-cons (λ (r : Place). n ≤ r.t) p ps low (All-weaker (λ (r : Place). p.t < r.t) (λ (r : Place). n ≤ r.t) (λ r lt. omega (arith, lt, low)) ps order.0)

all_behind : (q : PlaceList) (n : ℕ) (ps : List Place) → q.unserved ≡ ps → IsInOrder ps → ((s : ℕ) → s < length q.floors → n ≤ slice_index q.floors s) → HasNone q.floors ps → All (λ (r : Place). n ≤ r.t) ps
all_behind q n [] e order floors none = All-nil (λ (r : Place). n ≤ r.t)
all_behind q n (p ∷ ps) e order floors none =
    let floor = floors none.0 none.1 in
    let low = none.2 in
    from_first n p ps order (omega (arith, floor, low))

some_here : (o : Option PlacedUnit) → (o ≡ None → ⊥) → IsSome o
some_here None other = absurd (other refl)
some_here (Some unit) other = refl

module _ (s : Station) (awaited : Option ℕ) (least n : ℕ) (listed : IsPlaceList s.queue) (h : IsAwaited s awaited) (none : is_some awaited ≡ false)
    (lowest : IsLeast s.queue.floors least) (is : n ≡ round_end s) (above : n ≤ least) where
  floors_past : (i : ℕ) → i < length s.queue.floors → round_end s ≤ slice_index s.queue.floors i
  floors_past i lt = let low = lowest.below i lt in omega arith

  units_here : (u : ℕ) → u < width s → OwnsIn s s.round u → IsSome (in_hand s u)
  units_here u within owns = some_here (in_hand s u) (λ away. let told = h.told u within owns away in absurd (cc))

  pub done_first : (p : Place) → IsNext s.queue p → n ≤ p.t → IsRoundDone s
  done_first p next low = record {
    floors = floors_past;
    served = subst (All (λ (r : Place). round_end s ≤ r.t)) (sym next.least) (from_first (round_end s) p next.later (subst IsInOrder next.least listed.order) (omega (arith, low, is)));
    units = units_here;
  }

  pub done_none : HasNone s.queue.floors s.queue.unserved → IsRoundDone s
  done_none none_next = record {
    floors = floors_past;
    served = all_behind s.queue (round_end s) s.queue.unserved refl listed.order floors_past none_next;
    units = units_here;
  }

-- ---- from what the fields hold

pub awaited_at : (s now : Station) (awaited : Option ℕ) → s ≡ now → IsAwaited s awaited → is_some awaited ≡ true → IsTrue false ↔ IsRoundDone now
awaited_at s now awaited e h some = (λ yes'. absurd (cc), λ done. absurd (not_awaited s awaited h some (subst (λ (r : Station). IsRoundDone r) (sym e) done)))

pub first_at : (s now : Station) (awaited : Option ℕ) (least n : ℕ) (p : Place) → s ≡ now → IsStation s → IsAwaited s awaited → is_some awaited ≡ false → IsLeast s.queue.floors least
    → n ≡ round_end s → n ≤ least → IsNext s.queue p → IsTrue (leb n p.t) ↔ IsRoundDone now
first_at s now awaited least n p e station h none lowest is above next = subst (λ (r : Station). IsTrue (leb n p.t) ↔ IsRoundDone r) e (
  (λ low. done_first s awaited least n station.of_run.listed h none lowest is above p next (leb-true n p.t low)),
  (λ done. le-leb n p.t (let from : round_end s ≤ p.t = All-head (λ (r : Place). round_end s ≤ r.t) p next.later (subst (All (λ (r : Place). round_end s ≤ r.t)) next.least done.served) in omega arith)),
)

pub none_at : (s now : Station) (awaited : Option ℕ) (least n : ℕ) → s ≡ now → IsStation s → IsAwaited s awaited → is_some awaited ≡ false → IsLeast s.queue.floors least
    → n ≡ round_end s → n ≤ least → HasNone s.queue.floors s.queue.unserved → IsTrue true ↔ IsRoundDone now
none_at s now awaited least n e station h none lowest is above none_next =
    (λ yes'. subst (λ (r : Station). IsRoundDone r) e (done_none s awaited least n station.of_run.listed h none lowest is above none_next), λ done. refl)

-- whether all own units are in hand, as the awaited one tells
here_by : (s : Station) (awaited : Option ℕ) (b : Bool) → IsAwaited s awaited → is_some awaited ≡ not b → IsTrue b ↔ HasAllUnits s
here_by s None true h is = ((λ yes' u within owns. some_here (in_hand s u) (λ away. let told = h.told u within owns away in absurd (cc))), λ all. refl)
here_by s None false h is = absurd (cc)
here_by s (Some u) true h is = absurd (cc)
here_by s (Some u) false h is = ((λ yes'. absurd (cc)), λ all. (let was = h.away u refl in let here = all u was.0 was.1 in let none : in_hand s u ≡ None = was.2 in absurd (cc)))

pub all_here : (s now : Station) (awaited : Option ℕ) (b : Bool) → s ≡ now → IsAwaited s awaited → is_some awaited ≡ not b → IsTrue b ↔ HasAllUnits now
all_here s now awaited b e h is = subst (λ (r : Station). IsTrue b ↔ HasAllUnits r) e (here_by s awaited b h is)
