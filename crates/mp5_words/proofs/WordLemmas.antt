-- Words as their bits: what the machine's operations leave of a whole number is the number, wrapped.
use Rattle.std.proofs.Common.{◌≡◌, ℕ, zero, suc, ◌*◌, ◌/◌, ◌%◌, ◌^◌, ◌<◌, ◌≤◌, ℤ, pos, negsuc, neg_ℤ, ◌*ℤ◌, w32, to_z, of_z, FitsSigned, sym, ap, ◌∙◌, refl, subst, false, arith, inl, inr, unsigned_abs, int_div}
use Rattle.std.specs.Int.{int_wrap}
use Rattle.std.specs.Int.Signed.{nat_abs-le}
use Rattle.std.proofs.lemmas.Int.{to_z-of_z, SFits-int_wrap, wrapping_mul-bits, int_wrap-mul_right, int_wrap_fits, fits_signed_from_abs}
use Rattle.std.specs.Ordering.{int_eq}
use Rattle.std.proofs.lemmas.Grind.{common_steps}
use Rattle.mp5_words.specs.Words.{quotient}
use Rattle.std.proofs.Math.Nat.{mod-eq_of_lt, div-le_self, eq-or-lt_of_le, le_trans}

-- a wrapped number is its own word
pub passed : (r z : ℤ) → r ≡ int_wrap w32 z → to_z w32 (of_z w32 r) ≡ int_wrap w32 z
passed r z e = rw e (to_z-of_z w32 (int_wrap w32 z) (SFits-int_wrap w32 z))

-- the word of 32 bits
pub of_bits : (n : ℕ) → n < 2 ^ 32 → to_z w32 n ≡ int_wrap w32 (pos n)
unfolding int_wrap
of_bits n h = ap (to_z w32) (sym (mod-eq_of_lt h))

-- the bits of a, multiplied by a power of two
pub shifted : (a : ℤ) (n : ℕ) → FitsSigned w32 a → of_z w32 a < 2 ^ 32 → n < 2 ^ 32 → to_z w32 ((of_z w32 a * n) % 2 ^ 32) ≡ int_wrap w32 (a *ℤ pos n)
shifted a n f ha hn =
    wrapping_mul-bits w32 (of_z w32 a) n ha hn
    ∙ ap (λ x. int_wrap w32 (x *ℤ to_z w32 n)) (to_z-of_z w32 a f)
    ∙ ap (λ x. int_wrap w32 (a *ℤ x)) (of_bits n hn)
    ∙ int_wrap-mul_right w32 a (pos n)

-- 2^31 itself
at_most : (z : ℤ) → unsigned_abs z ≡ 2 ^ 31 → to_z w32 (of_z w32 z) ≡ int_wrap w32 z
unfolding int_wrap
at_most (pos n) e = let P : ℕ → Type 0 = λ k. to_z w32 k ≡ int_wrap w32 (pos k) in subst P (sym e) refl
at_most (negsuc n) e = let k : n ≡ 2147483647 = omega (arith, e) in let P : ℕ → Type 0 = λ k. to_z w32 (of_z w32 (negsuc k)) ≡ int_wrap w32 (negsuc k) in subst P (sym k) refl

-- a number of at most 2^31, up or down, as the bits of a word
pub halved : (z : ℤ) → unsigned_abs z ≤ 2 ^ 31 → to_z w32 (of_z w32 z) ≡ int_wrap w32 z
halved z h = elim (eq-or-lt_of_le h) [ inl e ↦ at_most z e | inr l ↦ (let f : FitsSigned w32 z = fits_signed_from_abs w32 z l in to_z-of_z w32 z f ∙ sym (int_wrap_fits w32 z f)) ]

-- a number is as far from zero as its negation
abs-neg : (z : ℤ) → unsigned_abs (neg_ℤ z) ≡ unsigned_abs z
abs-neg (pos zero) = refl
abs-neg (pos (suc n)) = refl
abs-neg (negsuc n) = refl

-- the quotient isn't further from zero than the dividend
pub quotient_within : (a b : ℤ) → unsigned_abs (int_div a b) ≤ unsigned_abs a
quotient_within (pos a) (pos b) = div-le_self a b
quotient_within (pos a) (negsuc b) = rw (abs-neg (pos (a / suc b))) (div-le_self a (suc b))
quotient_within (negsuc a) (pos b) = rw (abs-neg (pos (suc a / b))) (div-le_self (suc a) b)
quotient_within (negsuc a) (negsuc b) = div-le_self (suc a) (suc b)

-- a word is at most 2^31 from zero
pub abs_of_word : (a : ℤ) → FitsSigned w32 a → unsigned_abs a ≤ 2 ^ 31
abs_of_word a f = nat_abs-le a f.sfits

-- the quotient's bits are those of the wrapped quotient
pub quotient_bits : (a b : ℤ) → FitsSigned w32 a → to_z w32 (of_z w32 (int_div a b)) ≡ int_wrap w32 (int_div a b)
quotient_bits a b f = halved (int_div a b) (le_trans (quotient_within a b) (abs_of_word a f))

-- a number above 0 isn't 0
not_zero : (k : ℕ) → int_eq (pos (suc k)) (pos 0) ≡ false
not_zero k = grind (arith, common_steps)

-- where the divisor isn't 0, the wrapped quotient is the whole answer
pub quotient_is : (a b r : ℤ) → (of_z w32 b ≡ 0 → ⊥) → r ≡ int_wrap w32 (int_div a b) → r ≡ quotient a b
quotient_is a (pos zero) r n e = absurd (n refl)
quotient_is a (pos (suc k)) r n e = rw (not_zero k) e
quotient_is a (negsuc k) r n e = e
