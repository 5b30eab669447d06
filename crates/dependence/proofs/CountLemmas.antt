-- How many numbers pass a test.
use Rattle.std.proofs.Common.{◌≡◌, ℕ, zero, suc, ◌+◌, ◌<◌, ◌≤◌, if◌then◌else◌, Bool, true, false, refl, ap, subst, arith, inl, inr}
use Rattle.std.proofs.lemmas.Bool.Decides.{eqb_tells}
use Rattle.dependence.specs.Counts.{how_many}

abbrev one : Bool → ℕ
one b = if b then 1 else 0

-- a test that passes no less counts no less
more : (a b : Bool) → (a ≡ true → b ≡ true) → one a ≤ one b
more true b to = rw (to refl) (omega arith)
more false b to = omega arith

pub at_most : (test : ℕ → Bool) (n : ℕ) → how_many test n ≤ n
at_most test zero = omega arith
at_most test (suc n) = let h : how_many test n ≤ n = at_most test n in let k : one (test n) ≤ 1 = small (test n) in omega (arith, h, k) where
  small : (b : Bool) → one b ≤ 1
  small true = omega arith
  small false = omega arith

pub no_fewer : (s t : ℕ → Bool) (n : ℕ) → ((k : ℕ) → k < n → s k ≡ true → t k ≡ true) → how_many s n ≤ how_many t n
no_fewer s t zero to = omega arith
no_fewer s t (suc n) to =
    let h : how_many s n ≤ how_many t n = no_fewer s t n (λ k w. to k (omega arith)) in
    let k : one (s n) ≤ one (t n) = more (s n) (t n) (to n (omega arith)) in
    omega (arith, h, k)

-- and more, where it passes one more
pub more_by_one : (s t : ℕ → Bool) (n c : ℕ) → ((k : ℕ) → k < n → s k ≡ true → t k ≡ true) → c < n → s c ≡ false → t c ≡ true → how_many s n < how_many t n
more_by_one s t zero c to w f g = absurd (omega arith)
more_by_one s t (suc n) c to w f g =
    elim (eqb_tells c n) [
      | inl e ↦
          let h : how_many s n ≤ how_many t n = no_fewer s t n (λ k w. to k (omega arith)) in
          let i : one (s n) ≡ 0 = ap one (subst (λ m. s m ≡ false) e.1 f) in
          let j : one (t n) ≡ 1 = ap one (subst (λ m. t m ≡ true) e.1 g) in
          omega (arith, h, i, j)
      | inr e ↦
          let other : c ≡ n → ⊥ = e.1 in
          let h : how_many s n < how_many t n = more_by_one s t n c (λ k w. to k (omega arith)) (omega arith) f g in
          let k : one (s n) ≤ one (t n) = more (s n) (t n) (to n (omega arith)) in
          omega (arith, h, k)
    ]

-- one more number
pub counts_one : (test : ℕ → Bool) (n : ℕ) → test n ≡ true → how_many test (suc n) ≡ how_many test n + 1
counts_one test n e = ap (λ b. how_many test n + (if b then 1 else 0)) e

pub counts_none : (test : ℕ → Bool) (n : ℕ) → test n ≡ false → how_many test (suc n) ≡ how_many test n
counts_none test n e = let h : how_many test (suc n) ≡ how_many test n + 0 = ap (λ b. how_many test n + (if b then 1 else 0)) e in omega (arith, h)
