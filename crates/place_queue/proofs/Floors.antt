-- The floors of the sources, and the least of them.
use Rattle.std.proofs.Common.{◌≡◌, ◌≢◌, ℕ, zero, suc, ◌+◌, ◌<◌, ◌≤◌, ◌==◌, Bool, true, false, nat_lt, min, List, [], ◌∷◌, ◌++◌, length, slice_index, slice_set, refl, sym, ap, ◌∙◌, arith, get_or-set_same, get_or-set_other, length-append, below_more}
use Rattle.std.specs.List.{list_all}
use Rattle.std.proofs.Math.ListN.{length-set, get_or-append}
use Rattle.std.proofs.lemmas.Bool.{lt-ltb, ltb-true, ltb-false, le-ltb}
use Rattle.std.proofs.Math.Nat.{sub_self}
use Rattle.std.proofs.lemmas.List.{get_or-append_right}
use Rattle.std.proofs.lemmas.List.Folds.{list_all_at}
use Rattle.place_queue.specs.PlaceList.{IsLeast, first_floors}

all_yes : (p : ℕ → Bool) (xs : List ℕ) → ((i : ℕ) → i < length xs → p (slice_index xs i) ≡ true) → list_all p xs ≡ true
all_yes p [] h = refl
all_yes p (x ∷ xs) h = rw (h 0 (omega arith)) (all_yes p xs (λ i lt. h (suc i) (omega arith)))

-- every number is above t exactly where the least is
pub all_above : (xs : List ℕ) (least t : ℕ) → IsLeast xs least → list_all (λ x. nat_lt t x) xs ≡ nat_lt t least
all_above xs least t h = by (nat_lt t least) refl
  where
    by : (b : Bool) → nat_lt t least ≡ b → list_all (λ x. nat_lt t x) xs ≡ nat_lt t least
    by true e =
        let above : t < least = ltb-true t least e in
        all_yes (λ x. nat_lt t x) xs (λ i lt. lt-ltb t (slice_index xs i) (let low = h.below i lt in omega arith)) ∙ sym e
    by false e =
        let low : least ≤ t = ltb-false t least e in
        let at = h.reached.2 in
        list_all_at (λ x. nat_lt t x) xs h.reached.0 0 h.reached.1 (le-ltb t (slice_index xs h.reached.0) (omega arith)) ∙ sym e

-- the least number stays where another rises
pub least_stays : (xs : List ℕ) (least i x : ℕ) → IsLeast xs least → i < length xs → slice_index xs i ≢ least → slice_index xs i ≤ x → IsLeast (slice_set xs i x) least
least_stays xs least i x h lt ne le = record {
  reached = (h.reached.0, (let long = length-set {A = ℕ} xs i x in let in' = h.reached.1 in omega arith), kept ∙ h.reached.2);
  below = λ j in'. grind (arith, get_or-set_same {A = ℕ}, get_or-set_other {A = ℕ}, length-set {A = ℕ}, h.below j);
}
  where
    other : h.reached.0 ≢ i
    other e = ne (ap (λ k. slice_index xs k) (sym e) ∙ h.reached.2)

    kept : slice_index (slice_set xs i x) h.reached.0 ≡ slice_index xs h.reached.0
    kept = let o = other in grind (arith, get_or-set_other {A = ℕ})

-- there are as many first floors as sources
pub first_floors_length : (n arrivals : ℕ) → length (first_floors n arrivals) ≡ n
first_floors_length zero arrivals = refl
first_floors_length (suc n) arrivals =
    let rest = first_floors_length n arrivals in
    let all = length-append (first_floors n arrivals) (min n arrivals ∷ []) in
    omega arith

-- the first floor of a source is its own number, or the number of arrivals
pub first_floor : (n arrivals s : ℕ) → s < n → slice_index (first_floors n arrivals) s ≡ min s arrivals
first_floor zero arrivals s lt = absurd (omega arith)
first_floor (suc n) arrivals s lt = by (λ other. first_floor n arrivals s other) (s == n) refl
  where
    by : (s < n → slice_index (first_floors n arrivals) s ≡ min s arrivals) → (b : Bool) → (s == n) ≡ b → slice_index (first_floors n arrivals ++ min n arrivals ∷ []) s ≡ min s arrivals
    by rest true e =
        let same : s ≡ n = grind arith in
        get_or-append_right (first_floors n arrivals) (min n arrivals ∷ []) n s 0 (first_floors_length n arrivals) (omega arith)
        ∙ rw (same, sub_self) refl
    by rest false e =
        let other : s < n = grind arith in
        let long = first_floors_length n arrivals in
        get_or-append (first_floors n arrivals) (min n arrivals ∷ []) 0 s (omega arith) ∙ rest other

-- a first floor is the least where it is the first source's
pub first_least : (n arrivals : ℕ) → 1 ≤ n → IsLeast (first_floors n arrivals) 0
first_least n arrivals some =
    let long = first_floors_length n arrivals in
    record { reached = (0, omega arith, (let at = first_floor n arrivals 0 (omega arith) in omega arith)); below = λ i lt. omega arith }

-- the least of one number more
pub least_so_far : (xs : List ℕ) (i least now : ℕ) → i < length xs
    → ((k : ℕ) × (k < length xs) × (slice_index xs k ≡ least)) × ((k : ℕ) → k < i → least ≤ slice_index xs k)
    → now ≡ min least (slice_index xs i)
    → ((k : ℕ) × (k < length xs) × (slice_index xs k ≡ now)) × ((k : ℕ) → k < i + 1 → now ≤ slice_index xs k)
least_so_far xs i least now lt h is = (by (nat_lt (slice_index xs i) least) refl, below_more _ _ (λ k before. let low = h.1 k before in omega arith) (omega arith))
  where
    by : (b : Bool) → nat_lt (slice_index xs i) least ≡ b → (k : ℕ) × (k < length xs) × (slice_index xs k ≡ now)
    by true e = let less : slice_index xs i < least = ltb-true (slice_index xs i) least e in (i, lt, omega arith)
    by false e =
        let more : least ≤ slice_index xs i = ltb-false (slice_index xs i) least e in
        (h.0.0, h.0.1, h.0.2 ∙ omega arith)
