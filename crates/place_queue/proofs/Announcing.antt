-- What each call leaves is again a queue of places.
use Rattle.std.proofs.Common.{◌≡◌, ◌≢◌, ℕ, ◌+◌, ◌%◌, ◌<◌, ◌≤◌, ◌==◌, Bool, true, false, cond, min, List, ◌∷◌, length, slice_index, slice_set, refl, sym, ap, subst, ◌∙◌, arith, get_or-set_same, get_or-set_other, None}
use Rattle.std.specs.List.{All, EachIndex}
use Rattle.std.proofs.Math.ListN.{length-set}
use Rattle.std.proofs.Math.Nat.{add-mod_right, mod-eq_of_lt}
use Rattle.std.proofs.lemmas.List.Elements.{All-nil, All-tail, All-weaker}
use Rattle.place_queue.specs.declared.place.Place.{Place}
use Rattle.place_queue.specs.PlaceList.{PlaceList, IsPlaceList, IsFloor, IsAnnounced, IsInOrder, announced, unannounced, first_floors, with_place, count_of}
use Rattle.place_queue.proofs.Ordering.{all_with, order_with}
use Rattle.place_queue.proofs.Counting.{count_with, count_cons}
use Rattle.place_queue.proofs.Floors.{first_floors_length, first_floor}

module _ (q : PlaceList) (laws : IsPlaceList q) (source t : ℕ) (within : source < q.sources) (turn : t ≡ slice_index q.floors source) (early : t < q.arrivals) where
  -- the next own arrival is of the source
  pub own_turn : t % q.sources ≡ source
  own_turn =
      let each = laws.each in
      let floor = laws.floors source (omega arith) in
      ap (λ x. x % q.sources) turn ∙ floor.own (omega arith)

  -- the raised floor
  pub raised : ℕ
  raised = min (t + q.sources) q.arrivals

  -- no place is of the next own arrival
  pub no_place_yet : All (λ p. p.t ≢ t) q.unserved
  no_place_yet = All-weaker (IsAnnounced q.sources q.floors) (λ p. p.t ≢ t) other q.unserved laws.places
    where
      other : (p : Place) → IsAnnounced q.sources q.floors p → p.t ≢ t
      other p known e =
          let same : p.source ≡ source = sym known.own ∙ ap (λ x. x % q.sources) e ∙ own_turn in
          let below : p.t < slice_index q.floors source = subst (λ (s : ℕ). p.t < slice_index q.floors s) same known.below in
          absurd (omega arith)

  floors_raised : EachIndex (slice_set q.floors source (min (t + q.sources) q.arrivals)) (λ s. IsFloor q.sources q.arrivals s (slice_index (slice_set q.floors source (min (t + q.sources) q.arrivals)) s))
  floors_raised s lt = by (s == source) refl
    where
      long : length (slice_set q.floors source (min (t + q.sources) q.arrivals)) ≡ length q.floors
      long = length-set q.floors source (min (t + q.sources) q.arrivals)

      by : (b : Bool) → (s == source) ≡ b → IsFloor q.sources q.arrivals s (slice_index (slice_set q.floors source (min (t + q.sources) q.arrivals)) s)
      by true e =
          let same : s ≡ source = grind arith in
          let each = laws.each in
          let in' : source < length q.floors = omega arith in
          rw (same, get_or-set_same) record {
            limit = omega arith;
            own = λ less. let is : min (t + q.sources) q.arrivals ≡ t + q.sources = omega arith in rw (is, add-mod_right) own_turn;
          }
      by false e =
          let other : s ≢ source = grind arith in
          let in' : s < length q.floors = subst (λ n. s < n) long lt in
          rw get_or-set_other (laws.floors s in')

  still_announced : (p : Place) → IsAnnounced q.sources q.floors p → IsAnnounced q.sources (slice_set q.floors source (min (t + q.sources) q.arrivals)) p
  still_announced p known = record { source = known.source; own = known.own; below = by (p.source == source) refl }
    where
      by : (b : Bool) → (p.source == source) ≡ b → p.t < slice_index (slice_set q.floors source (min (t + q.sources) q.arrivals)) p.source
      by true e =
          let same : p.source ≡ source = grind arith in
          let each = laws.each in
          let in' : source < length q.floors = omega arith in
          let below : p.t < slice_index q.floors source = subst (λ (s : ℕ). p.t < slice_index q.floors s) same known.below in
          rw (same, get_or-set_same) (omega arith)
      by false e =
          let other : p.source ≢ source = grind arith in
          rw get_or-set_other known.below

  -- an announcement without a unit keeps the laws
  pub raise_lawful : IsPlaceList (announced q source t None)
  raise_lawful = record {
    some = laws.some;
    sources = laws.sources;
    window = laws.window;
    arrivals = laws.arrivals;
    each = length-set q.floors source (min (t + q.sources) q.arrivals) ∙ laws.each;
    floors = floors_raised;
    order = laws.order;
    places = All-weaker (IsAnnounced q.sources q.floors) (IsAnnounced q.sources (slice_set q.floors source (min (t + q.sources) q.arrivals))) still_announced q.unserved laws.places;
    limit = laws.limit;
  }

  -- after it the arrival is announced
  pub place_announced : (unit : ℕ) → IsAnnounced q.sources (announced q source t None).floors record { t = t; unit = unit; source = source }
  place_announced unit =
      let each = laws.each in
      let some = laws.some in
      let in' : source < length q.floors = omega arith in
      record { source = within; own = own_turn; below = rw get_or-set_same (omega arith) }

-- one more place of a source that has fewer than the window keeps the laws
pub add_lawful : (q : PlaceList) (p : Place) → IsPlaceList q → IsAnnounced q.sources q.floors p → All (λ r. r.t ≢ p.t) q.unserved → count_of q.unserved p.source < q.window
    → IsPlaceList record q { unserved = with_place p q.unserved }
add_lawful q p laws known new room = record {
  some = laws.some;
  sources = laws.sources;
  window = laws.window;
  arrivals = laws.arrivals;
  each = laws.each;
  floors = laws.floors;
  order = order_with p q.unserved new laws.order;
  places = all_with (IsAnnounced q.sources q.floors) p q.unserved known laws.places;
  limit = λ s lt. rw (count_with p q.unserved s) (by s lt (p.source == s) refl);
}
  where
    by : (s : ℕ) → s < q.sources → (b : Bool) → (p.source == s) ≡ b → cond b 1 0 + count_of q.unserved s ≤ q.window
    by s lt true e =
        let same : p.source ≡ s = grind arith in
        let few : count_of q.unserved s < q.window = subst (λ (a : ℕ). count_of q.unserved a < q.window) same room in omega arith
    by s lt false e = let few = laws.limit s lt in omega arith

-- without its first place a queue keeps the laws
pub serve_lawful : (q : PlaceList) (p : Place) (ps : List Place) → q.unserved ≡ p ∷ ps → IsPlaceList q → IsPlaceList record q { unserved = ps }
serve_lawful q p ps e laws = record {
  some = laws.some;
  sources = laws.sources;
  window = laws.window;
  arrivals = laws.arrivals;
  each = laws.each;
  floors = laws.floors;
  order = (subst IsInOrder e laws.order).1;
  places = All-tail (IsAnnounced q.sources q.floors) p ps (subst (λ (xs : List Place). All (IsAnnounced q.sources q.floors) xs) e laws.places);
  limit = λ s lt. let few : count_of (p ∷ ps) s ≤ q.window = subst (λ (xs : List Place). count_of xs s ≤ q.window) e (laws.limit s lt) in let all = count_cons p ps s in omega arith;
}

-- a queue before the first announcement has the laws
pub new_lawful : (sources window arrivals : ℕ) → 1 ≤ sources → sources ≤ 16 → window ≤ 1024 → arrivals ≤ 262144 → IsPlaceList (unannounced sources window arrivals)
new_lawful sources window arrivals some s w a = record {
  some = some;
  sources = s;
  window = w;
  arrivals = a;
  each = first_floors_length sources arrivals;
  floors = floor;
  order = tt;
  places = All-nil (IsAnnounced sources (first_floors sources arrivals));
  limit = λ i lt. omega arith;
}
  where
    floor : (i : ℕ) → i < length (first_floors sources arrivals) → IsFloor sources arrivals i (slice_index (first_floors sources arrivals) i)
    floor i lt =
        let long = first_floors_length sources arrivals in
        let is = first_floor sources arrivals i (omega arith) in
        rw is record {
          limit = omega arith;
          own = λ less. let same : min i arrivals ≡ i = omega arith in rw same (mod-eq_of_lt (omega arith));
        }
