-- The front of a queue: there is one and no other, and where a place comes next it is that place.
use Rattle.std.proofs.Common.{◌≡◌, ℕ, zero, suc, ◌<◌, ◌≤◌, ◌&&◌, Bool, true, false, cond, nat_lt, List, [], ◌∷◌, length, slice_index, Some, None, refl, sym, ap, subst, ◌∙◌, arith}
use Rattle.std.specs.List.{All, list_all}
use Rattle.std.proofs.lemmas.Bool.{ltb-true, ltb-false}
use Rattle.std.proofs.lemmas.List.Elements.{All-nil, All-cons, All-head, All-weaker}
use Rattle.place_queue.specs.declared.place.Place.{Place}
use Rattle.place_queue.specs.PlaceList.{PlaceList, IsPlaceList, IsLeast, IsInOrder, IsNext, first_known, next_place}
use Rattle.group_station.specs.Station.{IsFront, IsReached, by_floor, by_place}

-- ---- there is one

-- the least of one number more
least_more : (x : ℕ) (xs : List ℕ) (n : ℕ) → IsLeast xs n → (b : Bool) → nat_lt x n ≡ b → (m : ℕ) × IsLeast (x ∷ xs) m
least_more x xs n h true e = (x, record { reached = (0, omega arith, refl); below = low })
  where
    low : (i : ℕ) → i < length (x ∷ xs) → x ≤ slice_index (x ∷ xs) i
    low zero lt = omega arith
    low (suc i) lt = let less = ltb-true x n e in let rest = h.below i (omega arith) in omega arith
least_more x xs n h false e = (n, record { reached = (suc h.reached.0, (let in' = h.reached.1 in omega arith), h.reached.2); below = low })
  where
    low : (i : ℕ) → i < length (x ∷ xs) → n ≤ slice_index (x ∷ xs) i
    low zero lt = ltb-false x n e
    low (suc i) lt = h.below i (omega arith)

-- a list of numbers has a least one
least_of : (xs : List ℕ) → 0 < length xs → (n : ℕ) × IsLeast xs n
least_of [] some = absurd (omega arith)
least_of (x ∷ []) some = (x, record { reached = (0, omega arith, refl); below = low })
  where
    low : (i : ℕ) → i < length (x ∷ []) → x ≤ slice_index (x ∷ []) i
    low zero lt = omega arith
    low (suc i) lt = absurd (omega arith)
least_of (x ∷ y ∷ ys) some =
    let rest = least_of (y ∷ ys) (omega arith) in
    least_more x (y ∷ ys) rest.0 rest.1 (nat_lt x rest.0) refl

-- the front, from the least floor and the places
front_by : (q : PlaceList) (n : ℕ) → IsLeast q.floors n → (ps : List Place) → q.unserved ≡ ps → IsInOrder ps → (f : ℕ) × IsFront q f
front_by q n least [] e order = (
  n,
  record {
    floors = least.below;
    unserved = subst (All (λ (p : Place). n ≤ p.t)) (sym e) (All-nil (λ (p : Place). n ≤ p.t));
    reached = by_floor least.reached.0 least.reached.1 least.reached.2;
  },
)
front_by q n least (p ∷ ps) e order = by (nat_lt p.t n) refl
  where
    by : (b : Bool) → nat_lt p.t n ≡ b → (f : ℕ) × IsFront q f
    by true t = (
      p.t,
      record {
        floors = λ s lt. let less = ltb-true p.t n t in let low = least.below s lt in omega arith;
        unserved = subst (All (λ (r : Place). p.t ≤ r.t)) (sym e)
            (All-cons (λ (r : Place). p.t ≤ r.t) p ps (omega arith) (All-weaker (λ (r : Place). p.t < r.t) (λ (r : Place). p.t ≤ r.t) (λ r lt. omega (arith, lt)) ps order.0));
        reached = by_place p ps e refl;
      },
    )
    by false t =
        let low : n ≤ p.t = ltb-false p.t n t in (
          n,
          record {
            floors = least.below;
            unserved = subst (All (λ (r : Place). n ≤ r.t)) (sym e)
                (All-cons (λ (r : Place). n ≤ r.t) p ps low (All-weaker (λ (r : Place). p.t < r.t) (λ (r : Place). n ≤ r.t) (λ r lt. omega (arith, lt, low)) ps order.0));
            reached = by_floor least.reached.0 least.reached.1 least.reached.2;
          },
        )

pub front_of : (q : PlaceList) → IsPlaceList q → (f : ℕ) × IsFront q f
front_of q laws =
    let some = laws.some in
    let each = laws.each in
    let least = least_of q.floors (omega arith) in
    front_by q least.0 least.1 q.unserved refl laws.order

-- ---- and no other

-- no front is above what is reached
front_low : (q : PlaceList) (f g : ℕ) → IsFront q f → IsReached q g → f ≤ g
front_low q f g front (by_floor s lt e) = let low = front.floors s lt in omega arith
front_low q f g front (by_place p later e is) =
    let low : f ≤ p.t = All-head (λ (r : Place). f ≤ r.t) p later (subst (All (λ (r : Place). f ≤ r.t)) e front.unserved) in omega arith

pub front_once : (q : PlaceList) (f g : ℕ) → IsFront q f → IsFront q g → f ≡ g
front_once q f g first second =
    let low = front_low q f g first second.reached in
    let high = front_low q g f second first.reached in
    omega arith

-- what is below all floors and all places is below the front
pub below_front : (q : PlaceList) (n f : ℕ) → IsFront q f → ((s : ℕ) → s < length q.floors → n ≤ slice_index q.floors s) → All (λ (p : Place). n ≤ p.t) q.unserved → n ≤ f
below_front q n f front floors places = by front.reached
  where
    by : IsReached q f → n ≤ f
    by (by_floor s lt e) = let low = floors s lt in omega arith
    by (by_place p later e is) =
        let low : n ≤ p.t = All-head (λ (r : Place). n ≤ r.t) p later (subst (All (λ (r : Place). n ≤ r.t)) e places) in omega arith

-- ---- the next place

-- where all floors pass the test, each is above
all_above : (t : ℕ) (xs : List ℕ) → list_all (λ floor. nat_lt t floor) xs ≡ true → (i : ℕ) → i < length xs → t < slice_index xs i
all_above t [] e i lt = absurd (omega arith)
all_above t (x ∷ xs) e i lt = by (all_above t xs) (nat_lt t x) refl e i lt
  where
    by : (list_all (λ floor. nat_lt t floor) xs ≡ true → (k : ℕ) → k < length xs → t < slice_index xs k)
        → (b : Bool) → nat_lt t x ≡ b → (b && list_all (λ floor. nat_lt t floor) xs) ≡ true → (k : ℕ) → k < length (x ∷ xs) → t < slice_index (x ∷ xs) k
    by more true first rest zero less = ltb-true t x first
    by more true first rest (suc k) less = more rest k (omega arith)
    by more false first rest k less = absurd (cc)

-- the next place is the first, and every floor is above it
pub next_is : (q : PlaceList) (p : Place) → next_place q ≡ Some p → IsNext q p
next_is q p e = at q.unserved refl e
  where
    at : (ps : List Place) → q.unserved ≡ ps → first_known q.floors ps ≡ Some p → IsNext q p
    at [] same known = absurd (cc)
    at (r ∷ rs) same known = by (list_all (λ floor. nat_lt r.t floor) q.floors) refl known
      where
        by : (b : Bool) → list_all (λ floor. nat_lt r.t floor) q.floors ≡ b → cond b (Some r) None ≡ Some p → IsNext q p
        by true above k =
            let here : r ≡ p = cc in
            subst (IsNext q) here (record { later = rs; least = same; known = all_above r.t q.floors above })
        by false above k = absurd (cc)

-- so the front is there
pub front_next : (q : PlaceList) (p : Place) (f : ℕ) → IsFront q f → IsNext q p → f ≡ p.t
front_next q p f front next = by front.reached
  where
    low : f ≤ p.t
    low = All-head (λ (r : Place). f ≤ r.t) p next.later (subst (All (λ (r : Place). f ≤ r.t)) next.least front.unserved)

    by : IsReached q f → f ≡ p.t
    by (by_floor s lt e) = let above = next.known s lt in let under = low in absurd (omega arith)
    by (by_place r later e is) =
        let same : r ∷ later ≡ p ∷ next.later = sym e ∙ next.least in
        let here : r ≡ p = cc in
        sym is ∙ ap (λ (x : Place). x.t) here
