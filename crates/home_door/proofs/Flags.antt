-- How many flags of a list are set.
use Rattle.std.proofs.Common.{◌≡◌, ◌≢◌, ℕ, zero, suc, ◌+◌, ◌<◌, ◌≤◌, Bool, true, false, cond, List, [], ◌∷◌, length, slice_index_or, slice_set, arith, count_by, get_or-set_other}
use Rattle.std.proofs.lemmas.List.Sums.{sum_by-cons, sum_by-set}
use Rattle.egress_order.specs.OwnPackets.{leading}

-- the count by which those that are home are counted
abbrev pub set_count : List Bool → ℕ
set_count flags = count_by (λ flag. flag) flags

-- the first flag and the rest
set_count-cons : (x : Bool) (xs : List Bool) → set_count (x ∷ xs) ≡ cond x 1 0 + set_count xs
set_count-cons x xs = sum_by-cons (λ (flag : Bool). cond flag 1 0) x xs

-- no more stand before the first that is not set than there are
pub leading_few : (xs : List Bool) → leading xs ≤ set_count xs
leading_few [] = omega arith
leading_few (true ∷ xs) = let rest = leading_few xs in omega (arith, set_count-cons true xs)
leading_few (false ∷ xs) = omega arith

-- one more that was not set
pub set_count_more : (xs : List Bool) (k : ℕ) → k < length xs → slice_index_or xs k false ≡ false → set_count (slice_set xs k true) ≡ set_count xs + 1
set_count_more xs k lt e =
    let counts = sum_by-set (λ (flag : Bool). cond flag 1 0) xs k true false lt in
    let more = rw e at counts in
    omega arith

-- where none is set from a number on, no more are set than that number
set_count_below : (xs : List Bool) (n : ℕ) → ((i : ℕ) → n ≤ i → slice_index_or xs i false ≡ false) → set_count xs ≤ n
set_count_below [] n none = omega arith
set_count_below (true ∷ xs) zero none = let first : true ≡ false = none 0 (omega arith) in absurd (cc)
set_count_below (true ∷ xs) (suc n) none = let rest = set_count_below xs n (λ i le. none (suc i) (omega arith)) in omega (arith, set_count-cons true xs)
set_count_below (false ∷ xs) zero none = let rest = set_count_below xs zero (λ i le. none (suc i) (omega arith)) in omega (arith, set_count-cons false xs)
set_count_below (false ∷ xs) (suc n) none = let rest = set_count_below xs n (λ i le. none (suc i) (omega arith)) in omega (arith, set_count-cons false xs)

-- and fewer, where one below it is not set
pub set_count_fewer : (xs : List Bool) (n k : ℕ) → ((i : ℕ) → n ≤ i → slice_index_or xs i false ≡ false) → k < n → k < length xs → slice_index_or xs k false ≡ false → set_count xs < n
set_count_fewer xs n k none below within e =
    let more = set_count_more xs k within e in
    let most = set_count_below (slice_set xs k true) n still in
    omega arith
  where
    still : (i : ℕ) → n ≤ i → slice_index_or (slice_set xs k true) i false ≡ false
    still i le = let other : i ≢ k = omega arith in rw get_or-set_other (none i le)
