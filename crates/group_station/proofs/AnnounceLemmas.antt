-- A station whose queue heard of one more arrival.
use Rattle.std.proofs.Common.{◌≡◌, ◌⊎◌, ℕ, suc, ◌+◌, ◌*◌, ◌/◌, ◌%◌, ◌<◌, ◌≤◌, min, Bool, true, false, cond, nat_lt, List, [], ◌∷◌, length, slice_index, slice_set, Option, Some, None, refl, sym, subst, ◌∙◌, inl, inr, arith, get_or-set_same, get_or-set_other, length-set, mul-le-mul_right, IfSome, Result, Ok, Err, OnOk, OnErr}
use Rattle.std.specs.List.{All}
use Rattle.std.proofs.lemmas.Nat.{div-add-mod'}
use Rattle.std.proofs.lemmas.Bool.Decides.{eqb_tells}
use Rattle.place_queue.specs.declared.place.Place.{Place}
use Rattle.place_queue.specs.PlaceList.{PlaceList, IsPlaceList, announced, with_place, with_unit, count_of}
use Rattle.place_queue.proofs.Announcing.{own_turn, no_place_yet, raise_lawful, place_announced, add_lawful}
use Rattle.place_queue.proofs.Ordering.{all_with}
use Rattle.run_laws.specs.Run.{home_of}
use Rattle.group_station.specs.Station.{Station, site, IsGiven, IsFront, Waits, floor_for, HasPlaces, AreLaws, IsOfRun, IsStation, IsAwaited}
use Rattle.group_station.specs.Steps.{IsGivenUnit}
use Rattle.group_station.proofs.FrontLemmas.{front_of, below_front}
use Rattle.group_station.proofs.LawLemmas.{given_once, split_at, laws_on}

-- ---- a place more

waits_new : (p : Place) (ps : List Place) → Waits p.t p.unit (with_place p ps)
waits_new p [] = inl (refl, refl)
waits_new p (q ∷ qs) = by (waits_new p qs) (nat_lt q.t p.t)
  where
    by : Waits p.t p.unit (with_place p qs) → (b : Bool) → Waits p.t p.unit (cond b (q ∷ with_place p qs) (p ∷ q ∷ qs))
    by rest true = inr rest
    by rest false = inl (refl, refl)

waits_with : (p : Place) (t u : ℕ) (ps : List Place) → Waits t u ps → Waits t u (with_place p ps)
waits_with p t u [] w = elim w [ ]
waits_with p t u (q ∷ qs) w = by (waits_with p t u qs) (nat_lt q.t p.t) w
  where
    by : (Waits t u qs → Waits t u (with_place p qs)) → (b : Bool) → Waits t u (q ∷ qs) → Waits t u (cond b (q ∷ with_place p qs) (p ∷ q ∷ qs))
    by rest true (inl h) = inl h
    by rest true (inr h) = inr (rest h)
    by rest false h = inr h

waits_still : (source t : ℕ) (unit : Option ℕ) (n u : ℕ) (ps : List Place) → Waits n u ps → Waits n u (with_unit source t unit ps)
waits_still source t None n u ps w = w
waits_still source t (Some v) n u ps w = waits_with record { t = t; unit = v; source = source } n u ps w

all_still : (P : Place → Type 0) (source t : ℕ) (unit : Option ℕ) (ps : List Place) → IfSome unit (λ v. P record { t = t; unit = v; source = source }) → All P ps → All P (with_unit source t unit ps)
all_still P source t None ps new all = all
all_still P source t (Some v) ps new all = all_with P record { t = t; unit = v; source = source } ps new all

-- ---- the next own arrival

-- of so many numbers in a row no two have one rest
same_rest : (size t n : ℕ) → t ≤ n → n < t + size → n % size ≡ t % size → n ≡ t
same_rest size t n low high e = by (split_at (n / size) (t / size)) (split_at (t / size) (n / size))
  where
    whole_n : n / size * size + n % size ≡ n
    whole_n = div-add-mod' n size

    whole_t : t / size * size + t % size ≡ t
    whole_t = div-add-mod' t size

    by : (n / size < t / size) ⊎ (t / size ≤ n / size) → (t / size < n / size) ⊎ (n / size ≤ t / size) → n ≡ t
    by a (inl behind) =
        let more : suc (t / size) * size ≤ n / size * size = mul-le-mul_right size behind in
        let one : suc (t / size) * size ≡ t / size * size + size = omega arith in
        absurd (omega (arith, whole_n, whole_t, more, one, e, high))
    by a (inr most) =
        let less : n / size * size ≤ t / size * size = mul-le-mul_right size most in
        omega (arith, whole_n, whole_t, less, e, low)

-- ---- the station

module _ (s : Station) (f source t : ℕ) (unit : Option ℕ) (of_run : IsOfRun (site s) s.queue) (front : IsFront s.queue f) (laws : AreLaws s f)
    (within : source < s.queue.sources) (turn : t ≡ slice_index s.queue.floors source) (early : t < s.queue.arrivals) (given : IsGivenUnit s t unit)
    (room : IfSome unit (λ _. count_of s.queue.unserved source < s.queue.window)) where
  abbrev raised : ℕ
  raised = min (t + s.queue.sources) s.queue.arrivals

  floor_there : source < length s.queue.floors
  floor_there = let each = of_run.listed.each in omega (arith, within)

  listed_with : (o : Option ℕ) → IfSome o (λ _. count_of s.queue.unserved source < s.queue.window) → IsPlaceList (announced s.queue source t o)
  listed_with None few = raise_lawful s.queue of_run.listed source t within turn early
  listed_with (Some u) few =
      add_lawful (announced s.queue source t None) record { t = t; unit = u; source = source }
      (raise_lawful s.queue of_run.listed source t within turn early) (place_announced s.queue of_run.listed source t within turn early u)
      (no_place_yet s.queue of_run.listed source t within turn early) few

  pub told_of_run : IsOfRun (site s) (announced s.queue source t unit)
  told_of_run = record {
    pipe = of_run.pipe;
    group = of_run.group;
    wide = of_run.wide;
    sources = of_run.sources;
    arrivals = of_run.arrivals;
    window = of_run.window;
    listed = listed_with unit room;
  }

  -- the front rises
  low_floor : f ≤ t
  low_floor = let low = front.floors source floor_there in omega (arith, low, turn)

  floors_above : (i : ℕ) → i < length (slice_set s.queue.floors source raised) → f ≤ slice_index (slice_set s.queue.floors source raised) i
  floors_above i lt = elim (eqb_tells i source) [
    | inl e ↦ (let top : f ≤ raised = let low = low_floor in omega (arith, low, early) in
        subst (λ n. f ≤ slice_index (slice_set s.queue.floors source raised) n) (sym e.1) (subst (λ n. f ≤ n) (sym (get_or-set_same s.queue.floors source raised 0 floor_there)) top))
    | inr e ↦ (let low : f ≤ slice_index s.queue.floors i = front.floors i (omega (arith, lt, length-set s.queue.floors source raised)) in
        subst (λ n. f ≤ n) (sym (get_or-set_other s.queue.floors source i raised 0 e.1)) low)
  ]

  new_place : (o : Option ℕ) → IfSome o (λ u. f ≤ t)
  new_place None = tt
  new_place (Some u) = low_floor

  pub front_rises : (g : ℕ) → IsFront (announced s.queue source t unit) g → f ≤ g
  front_rises g next =
      below_front (announced s.queue source t unit) f g next floors_above
      (all_still (λ (p : Place). f ≤ p.t) source t unit s.queue.unserved (new_place unit) front.unserved)

  -- the places
  given_new : (o : Option ℕ) → IsGivenUnit s t o → IfSome o (λ u. IsGiven (site s) t u)
  given_new None g = tt
  given_new (Some u) g = g

  waits_told : (o : Option ℕ) → IsGivenUnit s t o → (u : ℕ) → IsGiven (site s) t u → Waits t u (with_unit source t o s.queue.unserved)
  waits_told None g u here = absurd (g u here)
  waits_told (Some v) g u here =
      subst (λ w. Waits t w (with_place record { t = t; unit = v; source = source } s.queue.unserved)) (given_once (site s) t v u g here)
      (waits_new record { t = t; unit = v; source = source } s.queue.unserved)

  waits_all : (n u : ℕ) → IsGiven (site s) n u → n < floor_for (site s) (announced s.queue source t unit) n → f ≤ n → Waits n u (with_unit source t unit s.queue.unserved)
  waits_all n u here below low = elim (eqb_tells (home_of s.run n) source) [
    | inl e ↦ own_source e.1
    | inr e ↦ waits_still source t unit n u s.queue.unserved
        (laws.places.waiting n u here (subst (λ m. n < m) (get_or-set_other s.queue.floors source (home_of s.run n) raised 0 e.1) below) low)
  ]
    where
      own_source : home_of s.run n ≡ source → Waits n u (with_unit source t unit s.queue.unserved)
      own_source e = elim (split_at n t) [
        | inl before ↦ waits_still source t unit n u s.queue.unserved
            (laws.places.waiting n u here (subst (λ m. n < slice_index s.queue.floors m) (sym e) (subst (λ m. n < m) turn before)) low)
        | inr from ↦ subst (λ m. Waits m u (with_unit source t unit s.queue.unserved)) (sym (here_again from)) (waits_told unit given u (subst (λ m. IsGiven (site s) m u) (here_again from) here))
      ]
        where
          top : n < raised
          top = subst (λ m. n < m) (get_or-set_same s.queue.floors source raised 0 floor_there) (subst (λ m. n < slice_index (slice_set s.queue.floors source raised) m) e below)

          here_again : t ≤ n → n ≡ t
          here_again from =
              let same : n % s.run.settings.pipelines ≡ t % s.run.settings.pipelines =
              e ∙ sym (subst (λ k. t % k ≡ source) of_run.sources (own_turn s.queue of_run.listed source t within turn early)) in
              same_rest s.run.settings.pipelines t n from (let sources = of_run.sources in omega (arith, top, sources)) same

  told_places : HasPlaces (site s) (announced s.queue source t unit) f
  told_places = record {
    given = all_still (λ (p : Place). IsGiven (site s) p.t p.unit) source t unit s.queue.unserved (given_new unit given) laws.places.given;
    waiting = waits_all;
  }

  pub announce_station : IsStation record s { queue = announced s.queue source t unit }
  announce_station =
      let next = front_of (announced s.queue source t unit) told_of_run.listed in
      record {
        of_run = told_of_run;
        front = next.0;
        is_front = next.1;
        laws = laws_on record s { queue = announced s.queue source t unit } f next.0 told_of_run
            record { places = told_places; units = laws.units; rounds = laws.rounds; counts = laws.counts }
            (front_rises next.0 next.1) next.1;
      }

-- ---- from what the fields hold

-- what is asked of an announcement
pub record Announces (s : Station) (source t : ℕ) (unit : Option ℕ) : Type 0 where
  pub within : source < s.queue.sources
  pub turn : t ≡ slice_index s.queue.floors source
  pub early : t < s.queue.arrivals
  pub given : IsGivenUnit s t unit

pub announced_at : {T E : Type 0} (s now : Station) (source t : ℕ) (unit awaited : Option ℕ) (q : PlaceList) (r : Result T E) → s ≡ now → IsStation s → IsAwaited s awaited → Announces now source t unit
    → OnOk r (q ≡ announced s.queue source t unit) → OnOk r (IfSome unit (λ _. count_of s.queue.unserved source < s.queue.window)) → OnErr r (q ≡ s.queue)
    → IsStation (record s { queue = q }) × IsAwaited (record s { queue = q }) awaited
announced_at s now source t unit awaited q (Ok x) e station awaits asked ok room kept =
    let here : Announces s source t unit = subst (λ (n : Station). Announces n source t unit) (sym e) asked in (
      subst (λ (p : PlaceList). IsStation (record s { queue = p })) (sym ok)
          (announce_station s station.front source t unit station.of_run station.is_front station.laws here.within here.turn here.early here.given room),
      record { told = awaits.told; away = awaits.away },
    )
announced_at s now source t unit awaited q (Err x) e station awaits asked ok room kept = (
  subst (λ (p : PlaceList). IsStation (record s { queue = p })) (sym kept) (record { of_run = station.of_run; front = station.front; is_front = station.is_front; laws = record { places = station.laws.places; units = station.laws.units; rounds = station.laws.rounds; counts = station.laws.counts } }),
  record { told = awaits.told; away = awaits.away },
)
