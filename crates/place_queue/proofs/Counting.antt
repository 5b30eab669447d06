-- How many places the sources have.
use Rattle.std.proofs.Common.{◌≡◌, ℕ, zero, suc, ◌+◌, ◌*◌, ◌<◌, ◌≤◌, ◌==◌, Bool, true, false, cond, nat_lt, List, [], ◌∷◌, length, refl, ap, ◌∙◌, arith, count_by}
use Rattle.std.specs.List.{All}
use Rattle.std.proofs.lemmas.Bool.{lt-ltb, le-ltb}
use Rattle.std.proofs.lemmas.List.Elements.{All-head, All-tail}
use Rattle.std.proofs.lemmas.List.Sums.{sum_by-cons}
use Rattle.place_queue.specs.declared.place.Place.{Place}
use Rattle.place_queue.specs.PlaceList.{with_place, count_of}

-- 1 where the place is the source's
abbrev one_of : Place → ℕ → ℕ
one_of p s = cond (p.source == s) 1 0

-- a place counts for its source
pub count_cons : (p : Place) (qs : List Place) (s : ℕ) → count_of (p ∷ qs) s ≡ cond (p.source == s) 1 0 + count_of qs s
count_cons p qs s = sum_by-cons (λ q. cond (q.source == s) 1 0) p qs

-- one more place counts for its source
pub count_with : (p : Place) (qs : List Place) (s : ℕ) → count_of (with_place p qs) s ≡ cond (p.source == s) 1 0 + count_of qs s
count_with p [] s = count_cons p [] s
count_with p (q ∷ qs) s = by (count_with p qs s) (nat_lt q.t p.t)
  where
    by : count_of (with_place p qs) s ≡ one_of p s + count_of qs s → (b : Bool) → count_of (cond b (q ∷ with_place p qs) (p ∷ q ∷ qs)) s ≡ one_of p s + count_of (q ∷ qs) s
    by rest true = let all = count_cons q (with_place p qs) s in let old = count_cons q qs s in omega arith
    by rest false = count_cons p (q ∷ qs) s

-- how many places are of sources below n
abbrev count_below : ℕ → List Place → ℕ
count_below n qs = count_by (λ q. nat_lt q.source n) qs

below_cons : (n : ℕ) (q : Place) (qs : List Place) → count_below n (q ∷ qs) ≡ cond (nat_lt q.source n) 1 0 + count_below n qs
below_cons n q qs = sum_by-cons (λ r. cond (nat_lt r.source n) 1 0) q qs

one_step : (a n : ℕ) → cond (nat_lt a (suc n)) 1 0 ≡ cond (a == n) 1 0 + cond (nat_lt a n) 1 0
one_step a n = grind arith

count_step : (n : ℕ) (qs : List Place) → count_below (suc n) qs ≡ count_of qs n + count_below n qs
count_step n [] = refl
count_step n (q ∷ qs) =
    let one = one_step q.source n in
    let rest = count_step n qs in
    let a = below_cons (suc n) q qs in
    let b = below_cons n q qs in
    let c = count_cons q qs n in
    omega arith

count_none : (qs : List Place) → count_below 0 qs ≡ 0
count_none [] = refl
count_none (q ∷ qs) =
    let all : count_below 0 (q ∷ qs) ≡ 0 + count_below 0 qs = below_cons 0 q qs ∙ ap (λ b. cond b 1 0 + count_below 0 qs) (le-ltb q.source 0 (omega arith)) in
    let rest = count_none qs in
    omega arith

few_below : (n limit : ℕ) (qs : List Place) → ((s : ℕ) → s < n → count_of qs s ≤ limit) → count_below n qs ≤ n * limit
few_below zero limit qs h = let none = count_none qs in omega arith
few_below (suc n) limit qs h =
    let step = count_step n qs in
    let last = h n (omega arith) in
    let rest = few_below n limit qs (λ s lt. h s (omega arith)) in
    omega arith

count_all : (n : ℕ) (qs : List Place) → All (λ q. q.source < n) qs → count_below n qs ≡ length qs
count_all n [] h = refl
count_all n (q ∷ qs) h =
    let all : count_below n (q ∷ qs) ≡ 1 + count_below n qs =
    below_cons n q qs ∙ ap (λ b. cond b 1 0 + count_below n qs) (lt-ltb q.source n (All-head (λ r. r.source < n) q qs h)) in
    let rest = count_all n qs (All-tail (λ r. r.source < n) q qs h) in
    omega arith

-- where no source has more places than the limit, and one has fewer, those below n have fewer than n times it
fewer_below : (n limit : ℕ) (qs : List Place) (a : ℕ) → a < n → count_of qs a < limit → ((s : ℕ) → s < n → count_of qs s ≤ limit) → count_below n qs < n * limit
fewer_below zero limit qs a lt less h = absurd (omega arith)
fewer_below (suc n) limit qs a lt less h = by (λ other. fewer_below n limit qs a other less (λ s lt'. h s (omega arith))) (a == n) refl
  where
    by : (a < n → count_below n qs < n * limit) → (b : Bool) → (a == n) ≡ b → count_below (suc n) qs < suc n * limit
    by rest true e =
        let same : a ≡ n = grind arith in
        let step = count_step n qs in
        let last : count_of qs n < limit = rw (← same) less in
        let few = few_below n limit qs (λ s lt'. h s (omega arith)) in
        omega arith
    by rest false e =
        let other : a < n = grind arith in
        let step = count_step n qs in
        let last = h n (omega arith) in
        let few = rest other in
        omega arith

-- where a source has fewer places than the limit and none has more, there is room for one more
pub room_left : (n limit : ℕ) (qs : List Place) (a : ℕ) → a < n → count_of qs a < limit → All (λ q. q.source < n) qs → ((s : ℕ) → s < n → count_of qs s ≤ limit) → length qs < n * limit
room_left n limit qs a lt less known h =
    let all = count_all n qs known in
    let few = fewer_below n limit qs a lt less h in
    omega arith
