-- How many flags are set before the first that is not.
use Rattle.std.proofs.Common.{◌≡◌, ℕ, zero, suc, ◌+◌, ◌≤◌, Bool, true, false, List, [], ◌∷◌, length, slice_index_or, slice_set, replicate, refl, arith}
use Rattle.egress_order.specs.OwnPackets.{leading}

-- there are no more than flags
pub leading_length : (xs : List Bool) → leading xs ≤ length xs
leading_length [] = omega arith
leading_length (true ∷ xs) = let rest = leading_length xs in omega arith
leading_length (false ∷ xs) = omega arith

-- a flag that is not set ends the count
pub leading_stop : (xs : List Bool) (n : ℕ) → slice_index_or xs n false ≡ false → leading xs ≤ n
leading_stop [] n e = omega arith
leading_stop (true ∷ xs) zero e = absurd (cc)
leading_stop (true ∷ xs) (suc n) e = let rest = leading_stop xs n e in omega arith
leading_stop (false ∷ xs) n e = omega arith

-- one more flag that is set
pub leading_go : (xs : List Bool) (n : ℕ) → n ≤ leading xs → slice_index_or xs n false ≡ true → n + 1 ≤ leading xs
leading_go [] n h e = absurd (cc)
leading_go (true ∷ xs) zero h e = omega arith
leading_go (true ∷ xs) (suc n) h e = let rest = leading_go xs n (omega arith) e in omega arith
leading_go (false ∷ xs) zero h e = absurd (cc)
leading_go (false ∷ xs) (suc n) h e = absurd (omega arith)

-- setting a flag takes none away
pub leading_set : (xs : List Bool) (k : ℕ) → leading xs ≤ leading (slice_set xs k true)
leading_set [] k = omega arith
leading_set (true ∷ xs) zero = omega arith
leading_set (true ∷ xs) (suc k) = let rest = leading_set xs k in omega arith
leading_set (false ∷ xs) k = omega arith

-- where none is set the count is 0
pub leading_none : (n : ℕ) → leading (replicate n false) ≡ 0
leading_none zero = refl
leading_none (suc n) = refl
