-- How far the stations have come.
use Rattle.std.proofs.Common.{◌≡◌, ◌↔◌, ℕ, ◌≤◌, Bool, false, List, [], ◌∷◌, slice_index, Option, Some, None, IfNone, IsTrue, is_some, refl, subst, arith}
use Rattle.std.specs.List.{All, EachIndex}
use Rattle.place_queue.specs.declared.place.Place.{Place}
use Rattle.place_queue.specs.PlaceList.{PlaceList, IsPlaceList, IsLeast, IsNext, HasNone}
use Rattle.run_laws.specs.Run.{arrivals, last_round}
use Rattle.group_station.specs.Station.{Station, IsStation}
use Rattle.group_station.specs.Steps.{HasAllUnits}
use Rattle.pipe_stations.specs.RowSteps.{IsStationFinished}

-- ---- one station

all_there : (s : Station) (least : ℕ) → IsStation s → IsLeast s.queue.floors least → arrivals s.run ≤ least → EachIndex s.queue.floors (λ source. slice_index s.queue.floors source ≡ arrivals s.run)
all_there s least station low past i lt =
    let here = low.below i lt in
    let listed = station.of_run.listed in
    let each = listed.each in
    let all = station.of_run.arrivals in
    let limit = (listed.floors i lt).limit in
    omega arith

-- where no place can be served, and every floor is past all arrivals, none is left
none_left : (q : PlaceList) (least : ℕ) (ps : List Place) → IsPlaceList q → q.unserved ≡ ps → IsLeast q.floors least → q.arrivals ≤ least → HasNone q.floors ps → ps ≡ []
none_left q least [] listed is low past none = refl
none_left q least (p ∷ ps) listed is low past none =
    let known = subst (All (Rattle.place_queue.specs.PlaceList.IsAnnounced q.sources q.floors)) is listed.places 0 p (omega arith) in
    let source = known.source in
    let each = listed.each in
    let below = known.below in
    let limit = (listed.floors p.source (omega arith)).limit in
    let floor = low.below none.0 none.1 in
    let at = none.2 in
    absurd (omega arith)

none_next : (q : PlaceList) (o : Option Place) → is_some o ≡ false → IfNone o (HasNone q.floors q.unserved) → HasNone q.floors q.unserved
none_next q None none has = has
none_next q (Some p) none has = absurd (cc)

pub at_end : (s : Station) (q r : PlaceList) (count last least round : ℕ) (o : Option Place) (b : Bool) → q ≡ s.queue → r ≡ s.queue → IsStation s → count ≡ arrivals s.run → last ≡ last_round s.run → round ≡ s.round
    → IsLeast q.floors least → count ≤ least → is_some o ≡ false → IfNone o (HasNone r.floors r.unserved) → last ≤ round → IsTrue b ↔ HasAllUnits s → IsTrue b ↔ IsStationFinished s
at_end s q r count last least round o b e f station all final here low past none has late units =
    let lowest : IsLeast s.queue.floors least = subst (λ (p : PlaceList). IsLeast p.floors least) e low in
    let empty : HasNone s.queue.floors s.queue.unserved = subst (λ (p : PlaceList). HasNone p.floors p.unserved) f (none_next r o none has) in
    let total = station.of_run.arrivals in
    let end = station.laws.rounds.last in (
      (λ yes'. record {
        floors = all_there s least station lowest (omega arith);
        served = none_left s.queue least s.queue.unserved station.of_run.listed refl lowest (omega arith) empty;
        round = omega arith;
        units = units.0 yes';
      }),
      (λ done. units.1 done.units),
    )
