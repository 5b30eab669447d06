-- The places in order of arrival.
use Rattle.std.proofs.Common.{◌≡◌, ◌≢◌, ℕ, zero, suc, ◌<◌, ◌≤◌, Bool, true, false, cond, nat_lt, List, [], ◌∷◌, length, slice_index_or, insert, refl, ap, arith}
use Rattle.std.specs.List.{All}
use Rattle.std.specs.List.Sorted.{IsPartitionedBy, IsPartitionPoint}
use Rattle.std.proofs.lemmas.Bool.{lt-ltb, ltb-true, ltb-false}
use Rattle.std.proofs.lemmas.List.Elements.{All-nil, All-cons, All-head, All-tail, All-weaker}
use Rattle.place_queue.specs.declared.place.Place.{Place}
use Rattle.place_queue.specs.PlaceList.{with_place, IsInOrder}

-- what holds of one place and of all others holds of them together
pub all_with : (P : Place → Type 0) (p : Place) (qs : List Place) → P p → All P qs → All P (with_place p qs)
all_with P p [] h k = All-cons P p [] h k
all_with P p (q ∷ qs) h k = by (all_with P p qs h (All-tail P q qs k)) (nat_lt q.t p.t)
  where
    by : All P (with_place p qs) → (b : Bool) → All P (cond b (q ∷ with_place p qs) (p ∷ q ∷ qs))
    by rest true = All-cons P q (with_place p qs) (All-head P q qs k) rest
    by rest false = All-cons P p (q ∷ qs) h k

-- the order stays where the place is of an arrival that no other is of
pub order_with : (p : Place) (qs : List Place) → All (λ q. q.t ≢ p.t) qs → IsInOrder qs → IsInOrder (with_place p qs)
order_with p [] new h = (All-nil (λ q. p.t < q.t), tt)
order_with p (q ∷ qs) new h = by (order_with p qs (All-tail (λ r. r.t ≢ p.t) q qs new) h.1) (nat_lt q.t p.t) refl
  where
    by : IsInOrder (with_place p qs) → (b : Bool) → nat_lt q.t p.t ≡ b → IsInOrder (cond b (q ∷ with_place p qs) (p ∷ q ∷ qs))
    by rest true e = (all_with (λ r. q.t < r.t) p qs (ltb-true q.t p.t e) h.0, rest)
    by rest false e =
        let le : p.t ≤ q.t = ltb-false q.t p.t e in
        let ne : q.t ≢ p.t = All-head (λ r. r.t ≢ p.t) q qs new in
        let lt : p.t < q.t = omega arith in
        (All-cons (λ r. p.t < r.t) q qs lt (All-weaker (λ r. q.t < r.t) (λ r. p.t < r.t) (λ r k. omega arith) qs h.0), h)

-- no place is of a later arrival than one after it
pub order_le : (qs : List Place) (i j : ℕ) (d : Place) → IsInOrder qs → i ≤ j → j < length qs → (slice_index_or qs i d).t ≤ (slice_index_or qs j d).t
order_le [] i j d h le lt = absurd (omega arith)
order_le (q ∷ qs) zero zero d h le lt = omega arith
order_le (q ∷ qs) zero (suc j) d h le lt =
    let below : q.t < (slice_index_or qs j d).t = h.0 j d (omega arith) in omega arith
order_le (q ∷ qs) (suc i) zero d h le lt = absurd (omega arith)
order_le (q ∷ qs) (suc i) (suc j) d h le lt = order_le qs i j d h.1 (omega arith) (omega arith)

-- the places before an arrival come before the others
pub in_order_parted : (t : ℕ) (qs : List Place) → IsInOrder qs → IsPartitionedBy (λ q. nat_lt q.t t) qs
in_order_parted t qs h i j d le lt e =
    let least = order_le qs i j d h le lt in
    lt-ltb (slice_index_or qs i d).t t (let below = ltb-true (slice_index_or qs j d).t t e in omega arith)

-- a place that is put where the earlier ones end
pub inserted : (p : Place) (qs : List Place) (i : ℕ) → i ≤ length qs
    → IsPartitionPoint (λ q. nat_lt q.t p.t ≡ true) (λ q. nat_lt q.t p.t ≡ false) qs i → insert qs i p ≡ with_place p qs
inserted p [] zero le h = refl
inserted p [] (suc i) le h = absurd (omega arith)
inserted p (q ∷ qs) zero le h =
    let e : nat_lt q.t p.t ≡ false = h.1 0 q (omega arith) (omega arith) in rw e
inserted p (q ∷ qs) (suc i) le h =
    let e : nat_lt q.t p.t ≡ true = h.0 0 q (omega arith) (omega arith) in
    rw e (ap (λ (rest : List Place). q ∷ rest)
    (inserted p qs i (omega arith) ((λ k d from to. h.0 (suc k) d (omega arith) (omega arith)), (λ k d from to. h.1 (suc k) d (omega arith) (omega arith)))))
