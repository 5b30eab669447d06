-- A station that served its next place: the unit goes past the arrival, and the front behind it.
use Rattle.std.proofs.Common.{◌≡◌, ◌≢◌, ℕ, zero, suc, ◌+◌, ◌<◌, ◌≤◌, min, List, [], ◌∷◌, length, slice_index, slice_set, drop, Option, Some, None, IsSome, refl, sym, ap, subst, ◌∙◌, inl, inr, arith, get_or-set_same, get_or-set_other, length-set}
use Rattle.std.specs.List.{All}
use Rattle.std.proofs.lemmas.Bool.Decides.{eqb_tells}
use Rattle.std.proofs.lemmas.List.Elements.{All-head, All-tail, All-weaker}
use Rattle.code_forms.specs.declared.unit.Unit.{Unit as PlacedUnit}
use Rattle.place_queue.specs.declared.place.Place.{Place}
use Rattle.place_queue.specs.PlaceList.{IsPlaceList, IsInOrder, IsNext}
use Rattle.place_queue.proofs.Announcing.{serve_lawful}
use Rattle.run_laws.specs.Run.{arrivals, round_of, units_before}
use Rattle.group_station.specs.Station.{Station, site, width_at, held, in_hand, OwnsAt, IsGiven, IsFront, Waits, HasPlaces, round_start, HasCells, own, later, IsHeld, HoldsUnits, KeepsRound, Counted, more, same, AreLaws, IsOfRun, IsStation}
use Rattle.group_station.specs.Steps.{IsReady, unit_before, after_serving}
use Rattle.group_station.proofs.RoundLemmas.{round_high}
use Rattle.group_station.proofs.FrontLemmas.{front_of, front_next, next_is, below_front}
use Rattle.group_station.proofs.LawLemmas.{some_arrivals, given_once, split_at, cells_rest, laws_on}

-- a unit in hand has a number below the width
pub held_in : (hand : List (Option PlacedUnit)) (u : ℕ) → IsSome (held hand u) → u < length hand
held_in [] u e = absurd (cc)
held_in (x ∷ xs) zero e = omega arith
held_in (x ∷ xs) (suc u) e = let rest = held_in xs u e in omega arith

-- the unit that an option has
pub some_unit : (o : Option PlacedUnit) → IsSome o → (unit : PlacedUnit) × (o ≡ Some unit)
some_unit None e = absurd (cc)
some_unit (Some unit) e = (unit, refl)

module _ (s : Station) (f : ℕ) (p : Place) (of_run : IsOfRun (site s) s.queue) (front : IsFront s.queue f) (old : AreLaws s f) (ready : IsReady s p) where
  next : IsNext s.queue p
  next = next_is s.queue p ready.next

  -- the laws at the place
  pub laws_there : AreLaws s p.t
  laws_there = subst (AreLaws s) (front_next s.queue p f front next) old

  pub given_there : IsGiven (site s) p.t p.unit
  given_there = All-head (λ (r : Place). IsGiven (site s) r.t r.unit) p next.later (subst (All (λ (r : Place). IsGiven (site s) r.t r.unit)) next.least old.places.given)

  owns_there : OwnsAt (site s) s.round p.unit
  owns_there = subst (λ e. OwnsAt (site s) e p.unit) ready.present given_there.owned

  pub unit_in : p.unit < length s.hand
  unit_in = held_in s.hand p.unit ready.unit

  pub before_end : p.t < round_start (site s) (s.round + 1)
  before_end = let round = ready.present in round_high s.run.settings.round p.t s.round (some_arrivals (site s)) (omega (arith, round))

  -- before it the unit has the cells that it has before the arrival
  pub cells_there : (unit : PlacedUnit) → in_hand s p.unit ≡ Some unit → (unit.group ≡ s.group) × (unit.number ≡ p.unit) × (unit.cells ≡ units_before s.run p.t s.group p.unit)
  cells_there unit e =
      let k = laws_there.units.known p.unit unit e in
      (k.group, k.number, by k.cells)
    where
      by : HasCells (site s) s.round p.t p.unit unit.cells → unit.cells ≡ units_before s.run p.t s.group p.unit
      by (own owns is) = let least : min p.t (round_start (site s) (s.round + 1)) ≡ p.t = omega (arith, before_end) in is ∙ ap (λ n. units_before s.run n s.group p.unit) least
      by (later e next behind is) = absurd (next.first s.round (omega arith) behind owns_there)

  -- ---- after it

  left : drop 1 s.queue.unserved ≡ next.later
  left = ap (drop 1) next.least

  served_listed : IsPlaceList record (s.queue) { unserved = drop 1 s.queue.unserved }
  served_listed = subst (λ (ps : List Place). IsPlaceList record (s.queue) { unserved = ps }) (sym left) (serve_lawful s.queue p next.later next.least of_run.listed)

  served_of_run : IsOfRun (site s) record (s.queue) { unserved = drop 1 s.queue.unserved }
  served_of_run = record {
    pipe = of_run.pipe;
    group = of_run.group;
    wide = of_run.wide;
    sources = of_run.sources;
    arrivals = of_run.arrivals;
    window = of_run.window;
    listed = served_listed;
  }

  later_places : All (λ (r : Place). p.t < r.t) next.later
  later_places = (subst IsInOrder next.least of_run.listed.order).0

  front_behind : (g : ℕ) → IsFront record (s.queue) { unserved = drop 1 s.queue.unserved } g → p.t + 1 ≤ g
  front_behind g now =
      below_front record (s.queue) { unserved = drop 1 s.queue.unserved } (p.t + 1) g now
      (λ i lt. let above = next.known i lt in omega arith)
      (subst (All (λ (r : Place). p.t + 1 ≤ r.t)) (sym left) (All-weaker (λ (r : Place). p.t < r.t) (λ (r : Place). p.t + 1 ≤ r.t) (λ r lt. omega (arith, lt)) next.later later_places))

  -- an arrival below the next one is below this one, or this one
  here_or : (t : ℕ) → p.t ≤ t → t < p.t + 1 → t ≡ p.t
  here_or t low high = omega (arith, low, high)

  -- this place alone
  only_unit : (t v : ℕ) → v ≢ p.unit → IsGiven (site s) t v → p.t ≤ t → t < p.t + 1 → ⊥
  only_unit t v other given low high =
      other (given_once (site s) p.t v p.unit (subst (λ m. IsGiven (site s) m v) (here_or t low high) given) given_there)

  served_places : HasPlaces (site s) record (s.queue) { unserved = drop 1 s.queue.unserved } (p.t + 1)
  served_places = record {
    given = subst (All (λ (r : Place). IsGiven (site s) r.t r.unit)) (sym left)
        (All-tail (λ (r : Place). IsGiven (site s) r.t r.unit) p next.later (subst (All (λ (r : Place). IsGiven (site s) r.t r.unit)) next.least laws_there.places.given));
    waiting = λ t u given below low.
        subst (Waits t u) (sym left) (behind t u low (subst (Waits t u) next.least (laws_there.places.waiting t u given below (omega (arith, low)))));
  }
    where
      behind : (t u : ℕ) → p.t + 1 ≤ t → Waits t u (p ∷ next.later) → Waits t u next.later
      behind t u low (inl h) = let here = h.0 in absurd (omega arith)
      behind t u low (inr w) = w

  within : p.t + 1 ≤ arrivals s.run
  within = let there = given_there.there in omega (arith, there)

  own_cells : HasCells (site s) s.round (p.t + 1) p.unit (units_before s.run (p.t + 1) s.group p.unit)
  own_cells =
      let least : p.t + 1 ≡ min (p.t + 1) (round_start (site s) (s.round + 1)) = omega (arith, before_end) in
      own owns_there (ap (λ n. units_before s.run n s.group p.unit) least)

  served_unit : (v : ℕ) (unit : PlacedUnit) → held (slice_set s.hand p.unit (Some (unit_before s (p.t + 1) p.unit))) v ≡ Some unit → IsHeld (site s) s.round (p.t + 1) v unit
  served_unit v unit e = elim (eqb_tells v p.unit) [ inl h ↦ this h.1 | inr h ↦ other h.1 ]
    where
      this : v ≡ p.unit → IsHeld (site s) s.round (p.t + 1) v unit
      this here =
          let read : ◌≡◌ {A = Option PlacedUnit} (Some (unit_before s (p.t + 1) p.unit)) (Some unit) =
          sym (get_or-set_same s.hand p.unit (Some (unit_before s (p.t + 1) p.unit)) None unit_in) ∙ subst (λ n. held (slice_set s.hand p.unit (Some (unit_before s (p.t + 1) p.unit))) n ≡ Some unit) here e in
          let is : unit_before s (p.t + 1) p.unit ≡ unit = cc in
          subst (λ n. IsHeld (site s) s.round (p.t + 1) n unit) (sym here) (subst (IsHeld (site s) s.round (p.t + 1) p.unit) is (record { group = refl; number = refl; cells = own_cells }))

      other : v ≢ p.unit → IsHeld (site s) s.round (p.t + 1) v unit
      other ne =
          let k = laws_there.units.known v unit (sym (get_or-set_other s.hand p.unit v (Some (unit_before s (p.t + 1) p.unit)) None ne) ∙ e) in
          record {
            group = k.group;
            number = k.number;
            cells = cells_rest (site s) s.round p.t (p.t + 1) v unit.cells (omega arith) within laws_there.rounds.begun (λ t given low high. only_unit t v ne given low high) k.cells;
          }

  served_units : HoldsUnits (site s) s.round (slice_set s.hand p.unit (Some (unit_before s (p.t + 1) p.unit))) (p.t + 1)
  served_units = record {
    wide = length-set s.hand p.unit (Some (unit_before s (p.t + 1) p.unit)) ∙ laws_there.units.wide;
    known = served_unit;
  }

  passed_all : (t u : ℕ) → IsGiven (site s) t u → t < p.t + 1 → round_of s.run t ≤ s.round
  passed_all t u given high = elim (split_at t p.t) [
    | inl lt ↦ laws_there.rounds.passed t u given lt
    | inr low ↦ (let same : round_of s.run t ≡ s.round = ap (round_of s.run) (here_or t low high) ∙ ready.present in omega (arith, same))
  ]

  -- who isn't in hand now wasn't before
  pub still_away : (v : ℕ) → held (slice_set s.hand p.unit (Some (unit_before s (p.t + 1) p.unit))) v ≡ None → (v ≢ p.unit) × (held s.hand v ≡ None)
  still_away v away = (other, sym (get_or-set_other s.hand p.unit v (Some (unit_before s (p.t + 1) p.unit)) None other) ∙ away)
    where
      other : v ≢ p.unit
      other here =
          let read : ◌≡◌ {A = Option PlacedUnit} (Some (unit_before s (p.t + 1) p.unit)) None =
          sym (get_or-set_same s.hand p.unit (Some (unit_before s (p.t + 1) p.unit)) None unit_in) ∙ subst (λ n. held (slice_set s.hand p.unit (Some (unit_before s (p.t + 1) p.unit))) n ≡ None) here away in
          absurd (cc)

  absent_still : (u : ℕ) → u < width_at (site s) → OwnsAt (site s) s.round u → held (slice_set s.hand p.unit (Some (unit_before s (p.t + 1) p.unit))) u ≡ None
      → (t : ℕ) → IsGiven (site s) t u → round_start (site s) s.round ≤ t → t < p.t + 1 → ⊥
  absent_still u wide owns away t given low high =
      let before = still_away u away in
      elim (split_at t p.t) [
        | inl lt ↦ laws_there.rounds.absent u wide owns before.1 t given low lt
        | inr from ↦ only_unit t u before.0 given from high
      ]

  served_rounds : KeepsRound (site s) s.round (slice_set s.hand p.unit (Some (unit_before s (p.t + 1) p.unit))) (p.t + 1)
  served_rounds = record {
    begun = let begun = laws_there.rounds.begun in omega (arith, begun);
    last = laws_there.rounds.last;
    passed = passed_all;
    absent = absent_still;
  }

  counted_one : (u : ℕ) → u < width_at (site s) → Counted (λ t. IsGiven (site s) t u) (p.t + 1) (slice_index (slice_set s.served p.unit (slice_index s.served p.unit + 1)) u)
  counted_one u wide = elim (eqb_tells u p.unit) [ inl h ↦ this h.1 | inr h ↦ other h.1 ]
    where
      behind : suc p.t ≡ p.t + 1
      behind = omega arith

      count : ℕ
      count = slice_index s.served p.unit + 1

      this : u ≡ p.unit → Counted (λ t. IsGiven (site s) t u) (p.t + 1) (slice_index (slice_set s.served p.unit (slice_index s.served p.unit + 1)) u)
      this here =
          let there : p.unit < length s.served = (let long = laws_there.counts.wide in subst (λ n. n < length s.served) here (omega (arith, wide, long))) in
          let one : suc (slice_index s.served p.unit) ≡ slice_index (slice_set s.served p.unit (slice_index s.served p.unit + 1)) p.unit =
          (let read = get_or-set_same s.served p.unit (slice_index s.served p.unit + 1) 0 there in omega (arith, read)) in
          let counted : Counted (λ t. IsGiven (site s) t p.unit) (suc p.t) (suc (slice_index s.served p.unit)) =
          more given_there (laws_there.counts.counts p.unit (subst (λ n. n < width_at (site s)) here wide)) in
          subst (λ n. Counted (λ t. IsGiven (site s) t n) (p.t + 1) (slice_index (slice_set s.served p.unit (slice_index s.served p.unit + 1)) n)) (sym here)
          (subst (λ m. Counted (λ t. IsGiven (site s) t p.unit) m (slice_index (slice_set s.served p.unit (slice_index s.served p.unit + 1)) p.unit)) behind
          (subst (Counted (λ t. IsGiven (site s) t p.unit) (suc p.t)) one counted))

      other : u ≢ p.unit → Counted (λ t. IsGiven (site s) t u) (p.t + 1) (slice_index (slice_set s.served p.unit (slice_index s.served p.unit + 1)) u)
      other ne =
          let counted : Counted (λ t. IsGiven (site s) t u) (suc p.t) (slice_index s.served u) =
          same (λ given. only_unit p.t u ne given (omega arith) (omega arith)) (laws_there.counts.counts u wide) in
          subst (λ m. Counted (λ t. IsGiven (site s) t u) m (slice_index (slice_set s.served p.unit (slice_index s.served p.unit + 1)) u)) behind
          (subst (Counted (λ t. IsGiven (site s) t u) (suc p.t)) (sym (get_or-set_other s.served p.unit u (slice_index s.served p.unit + 1) 0 ne)) counted)

  served_laws : AreLaws (after_serving s p) (p.t + 1)
  served_laws = record {
    places = served_places;
    units = served_units;
    rounds = served_rounds;
    counts = record { wide = length-set s.served p.unit (slice_index s.served p.unit + 1) ∙ laws_there.counts.wide; counts = counted_one };
  }

  pub serve_station : IsStation (after_serving s p)
  serve_station =
      let now = front_of record (s.queue) { unserved = drop 1 s.queue.unserved } served_listed in
      record {
        of_run = served_of_run;
        front = now.0;
        is_front = now.1;
        laws = laws_on (after_serving s p) (p.t + 1) now.0 served_of_run served_laws (front_behind now.0 now.1) now.1;
      }
