-- The laws where the front moves on: over arrivals none of which is given, each law goes with it.
use Rattle.std.proofs.Common.{◌≡◌, ℕ, zero, suc, ◌+◌, ◌-◌, ◌%◌, ◌<◌, ◌≤◌, ◌⊎◌, min, Bool, true, false, nat_lt, ℤ, List, [], ◌∷◌, length, slice_index, Option, Some, refl, sym, ap, subst, ◌∙◌, inl, inr, arith, mod-lt}
use Rattle.std.specs.List.{All}
use Rattle.std.proofs.lemmas.Bool.{ltb-true, ltb-false}
use Rattle.std.proofs.lemmas.List.Elements.{All-head, All-tail}
use Rattle.code_forms.specs.declared.unit.Unit.{Unit as PlacedUnit}
use Rattle.place_queue.specs.declared.place.Place.{Place}
use Rattle.place_queue.specs.PlaceList.{PlaceList}
use Rattle.run_laws.specs.Run.{arrivals, round_of, home_of, place_of, units_before}
use Rattle.run_laws.proofs.RunLemmas.{unit_rests}
use Rattle.group_station.specs.Station.{Station, Site, site, width_at, OwnsAt, IsGiven, IsFront, Waits, floor_for, HasPlaces, round_start, HasCells, own, later, HoldsUnits, KeepsRound, Counted, none, more, same, CountsServed, AreLaws, IsOfRun}
use Rattle.group_station.proofs.RoundLemmas.{round_is}

-- ---- numbers

pub some_arrivals : (a : Site) → 0 < a.run.settings.round
some_arrivals a = let some = a.run.settings.some_round in omega arith

pub home_in : (a : Site) (q : PlaceList) (t : ℕ) → IsOfRun a q → home_of a.run t < length q.floors
home_in a q t of_run =
    let some = of_run.listed.some in
    let each = of_run.listed.each in
    let sources = of_run.sources in
    let below : t % a.run.settings.pipelines < a.run.settings.pipelines = mod-lt t (omega arith) in
    omega arith

-- the front is at most the number of arrivals
pub front_within : (a : Site) (q : PlaceList) (f : ℕ) → IsOfRun a q → IsFront q f → f ≤ arrivals a.run
front_within a q f of_run front =
    let some = of_run.listed.some in
    let each = of_run.listed.each in
    let all = of_run.arrivals in
    let floor = (of_run.listed.floors 0 (omega arith)).limit in
    let low = front.floors 0 (omega arith) in
    omega arith

-- a number is below another, or not
pub split_at : (t f : ℕ) → (t < f) ⊎ (f ≤ t)
split_at t f = by (nat_lt t f) refl
  where
    by : (b : Bool) → nat_lt t f ≡ b → (t < f) ⊎ (f ≤ t)
    by true e = inl (ltb-true t f e)
    by false e = inr (ltb-false t f e)

-- ---- where no place is given

-- no unit has a given place between two arrivals
abbrev pub NoneBetween : Site → ℕ → ℕ → Type 0
NoneBetween a from to = (t u : ℕ) → IsGiven a t u → from ≤ t → t < to → ⊥

-- a place that waits among places from an arrival on is of one from there on
waits_from : (n t u : ℕ) (ps : List Place) → All (λ (p : Place). n ≤ p.t) ps → Waits t u ps → n ≤ t
waits_from n t u [] all w = elim w [ ]
waits_from n t u (p ∷ ps) all (inl h) = let low = All-head (λ (r : Place). n ≤ r.t) p ps all in let here = h.0 in omega arith
waits_from n t u (p ∷ ps) all (inr w) = waits_from n t u ps (All-tail (λ (r : Place). n ≤ r.t) p ps all) w

-- up to a front no place is given that doesn't wait
pub none_given : (a : Site) (q : PlaceList) (f g : ℕ) → IsOfRun a q → HasPlaces a q f → IsFront q g → NoneBetween a f g
none_given a q f g of_run places front t u given from to =
    let floor : g ≤ floor_for a q t = front.floors (home_of a.run t) (home_in a q t of_run) in
    let waits = places.waiting t u given (omega (arith, floor, to)) from in
    let back : g ≤ t = waits_from g t u q.unserved front.unserved waits in
    absurd (omega arith)

-- an arrival has one place at a group
pub given_once : (a : Site) (t u v : ℕ) → IsGiven a t u → IsGiven a t v → u ≡ v
given_once a t u v first second = let both : ◌≡◌ {A = Option ℕ} (Some u) (Some v) = sym first.place ∙ second.place in cc

-- ---- units

-- a place in a unit that the pipe owns in the round of the arrival is given
pub given_in : (a : Site) (r t u : ℕ) → OwnsAt a r u → t < arrivals a.run → round_start a r ≤ t → t < round_start a (r + 1) → place_of a.run t a.group ≡ Some u → IsGiven a t u
given_in a r t u owns there low high place =
    let round : round_of a.run t ≡ r = round_is a.run.settings.round t r (some_arrivals a) low high in
    record { there = there; place = place; owned = subst (λ e. OwnsAt a e u) (sym round) owns }

-- a unit stays over arrivals of a round in which the pipe owns it, where none is given
pub own_rests : (a : Site) (r u from to : ℕ) → OwnsAt a r u → from ≤ to → to ≤ arrivals a.run → round_start a r ≤ from → to ≤ round_start a (r + 1)
    → ((t : ℕ) → IsGiven a t u → from ≤ t → t < to → ⊥) → units_before a.run to a.group u ≡ units_before a.run from a.group u
own_rests a r u from to owns le within begun ended free =
    ap (λ n. units_before a.run n a.group u) (sym most) ∙ unit_rests a.run a.group u from (to - from) (omega (arith, most, within)) unplaced
  where
    most : from + (to - from) ≡ to
    most = omega (arith, le)

    unplaced : (t : ℕ) → from ≤ t → t < from + (to - from) → place_of a.run t a.group ≡ Some u → ⊥
    unplaced t low high place =
        let below : t < to = omega (arith, most, high) in
        free t (given_in a r t u owns (omega (arith, below, within)) (omega (arith, begun, low)) (omega (arith, below, ended)) place) low below

pub cells_rest : (a : Site) (r f g u : ℕ) (cells : List ℤ) → f ≤ g → g ≤ arrivals a.run → round_start a r ≤ f → ((t : ℕ) → IsGiven a t u → f ≤ t → t < g → ⊥) → HasCells a r f u cells → HasCells a r g u cells
cells_rest a r f g u cells le within begun free (own owns e) =
    let wide : round_start a r ≤ round_start a (r + 1) = omega arith in
    own owns (e ∙ sym (own_rests a r u (min f (round_start a (r + 1))) (min g (round_start a (r + 1))) owns (omega (arith, le)) (omega (arith, within)) (omega (arith, wide, begun)) (omega arith)
    (λ t given low high. free t given (omega (arith, low, high)) (omega (arith, low, high)))))
cells_rest a r f g u cells le within begun free (later e next behind is) = later e next behind is

pub units_rest : (a : Site) (r f g : ℕ) (hand : List (Option PlacedUnit)) → f ≤ g → g ≤ arrivals a.run → round_start a r ≤ f → NoneBetween a f g → HoldsUnits a r hand f → HoldsUnits a r hand g
units_rest a r f g hand le within begun free h = record {
  wide = h.wide;
  known = λ u unit e. let k = h.known u unit e in record { group = k.group; number = k.number; cells = cells_rest a r f g u unit.cells le within begun (λ t given low high. free t u given low high) k.cells };
}

-- ---- places, the round, counts

pub places_rest : (a : Site) (q : PlaceList) (f g : ℕ) → f ≤ g → HasPlaces a q f → HasPlaces a q g
places_rest a q f g le h = record { given = h.given; waiting = λ t u given announced low. h.waiting t u given announced (omega (arith, le, low)) }

pub round_rests : (a : Site) (r f g : ℕ) (hand : List (Option PlacedUnit)) → f ≤ g → NoneBetween a f g → KeepsRound a r hand f → KeepsRound a r hand g
round_rests a r f g hand le free h = record {
  begun = let begun = h.begun in omega (arith, le, begun);
  last = h.last;
  passed = λ t u given high. elim (split_at t f) [ inl lt ↦ h.passed t u given lt | inr from ↦ absurd (free t u given from high) ];
  absent = λ u wide owns away t given low high. elim (split_at t f) [ inl lt ↦ h.absent u wide owns away t given low lt | inr from ↦ free t u given from high ];
}

pub counted_rests : (P : ℕ → Type 0) (f n k : ℕ) → Counted P f n → ((t : ℕ) → f ≤ t → t < f + k → P t → ⊥) → Counted P (f + k) n
counted_rests P f n zero c free = subst (λ m. Counted P m n) (omega arith) c
counted_rests P f n (suc k) c free =
    let next : suc (f + k) ≡ f + suc k = omega arith in
    subst (λ m. Counted P m n) next
    (same (free (f + k) (omega arith) (omega arith)) (counted_rests P f n k c (λ t low high. free t low (omega (arith, high)))))

pub counts_rest : (a : Site) (served : List ℕ) (f g : ℕ) → f ≤ g → NoneBetween a f g → CountsServed a served f → CountsServed a served g
counts_rest a served f g le free h = record { wide = h.wide; counts = λ u within. moved u within }
  where
    most : f + (g - f) ≡ g
    most = omega (arith, le)

    moved : (u : ℕ) → u < width_at a → Counted (λ t. IsGiven a t u) g (slice_index served u)
    moved u within =
        subst (λ m. Counted (λ t. IsGiven a t u) m (slice_index served u)) most
        (counted_rests (λ t. IsGiven a t u) f (slice_index served u) (g - f) (h.counts u within) (λ t low high given. free t u given low (omega (arith, most, high))))

-- no number has the property more often than there are numbers
pub counted_few : (P : ℕ → Type 0) (t n : ℕ) → Counted P t n → n ≤ t
counted_few P t n none = omega arith
counted_few P (suc t) (suc n) (more p c) = let few = counted_few P t n c in omega arith
counted_few P (suc t) n (same p c) = let few = counted_few P t n c in omega arith

-- ---- all of them

-- laws up to a number that is no front yet are laws up to the front
pub laws_on : (s : Station) (f g : ℕ) → IsOfRun (site s) s.queue → AreLaws s f → f ≤ g → IsFront s.queue g → AreLaws s g
laws_on s f g of_run laws le front =
    let free : NoneBetween (site s) f g = none_given (site s) s.queue f g of_run laws.places front in
    let within = front_within (site s) s.queue g of_run front in
    record {
      places = places_rest (site s) s.queue f g le laws.places;
      units = units_rest (site s) s.round f g s.hand le within laws.rounds.begun free laws.units;
      rounds = round_rests (site s) s.round f g s.hand le free laws.rounds;
      counts = counts_rest (site s) s.served f g le free laws.counts;
    }
