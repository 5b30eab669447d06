-- Reaching through nodes below a number is reaching.
use Rattle.std.proofs.Common.{◌≡◌, ℕ, zero, suc, ◌<◌, ◌≤◌, Bool, true, false, refl, ap, subst, arith, inl, inr, ◌⊎◌}
use Rattle.std.specs.Prelude.{◌==◌, ◌&&◌, ◌||◌}
use Rattle.std.proofs.lemmas.Bool.Decides.{Decides-eqb, eqb_tells}
use Rattle.dependence.specs.Reach.{Reaches, here, step}
use Rattle.dependence.specs.Tables.{via}

pub join : {R : ℕ → ℕ → Type 0} {a b c : ℕ} → Reaches R a b → Reaches R b c → Reaches R a c
join here q = q
join (step r p) q = step r (join p q)

pub or_cases : (x y : Bool) → (x || y) ≡ true → (x ≡ true) ⊎ (y ≡ true)
or_cases true y h = inl refl
or_cases false y h = inr h

pub or_left : (x y : Bool) → x ≡ true → (x || y) ≡ true
or_left x y h = ap (λ b. b || y) h

pub or_right : (x y : Bool) → y ≡ true → (x || y) ≡ true
or_right true y h = refl
or_right false y h = h

and_both : (x y : Bool) → x ≡ true → y ≡ true → (x && y) ≡ true
and_both true y h k = k
and_both false y h k = h

and_cases : (x y : Bool) → (x && y) ≡ true → (x ≡ true) × (y ≡ true)
and_cases true y h = (refl, h)
and_cases false y h = (h, cc)

-- what is reached through nodes below k
module _ (e : ℕ → ℕ → Bool) where
  -- one node more may be passed
  more : (k a b : ℕ) → via e k a b ≡ true → via e (suc k) a b ≡ true
  more k a b h = or_left (via e k a b) (via e k a k && via e k k b) h

  through : (k a b : ℕ) → via e k a k ≡ true → via e k k b ≡ true → via e (suc k) a b ≡ true
  through k a b p q = or_right (via e k a b) (via e k a k && via e k k b) (and_both (via e k a k) (via e k k b) p q)

  -- either not through k, or through it
  split : (k a b : ℕ) → via e (suc k) a b ≡ true → (via e k a b ≡ true) ⊎ ((via e k a k ≡ true) × (via e k k b ≡ true))
  split k a b h = elim (or_cases (via e k a b) (via e k a k && via e k k b) h) [ inl p ↦ inl p | inr q ↦ inr (and_cases (via e k a k) (via e k k b) q) ]

  -- what passes below k joins at a node below k
  joins : (k a m b : ℕ) → m < k → via e k a m ≡ true → via e k m b ≡ true → via e k a b ≡ true
  joins zero a m b below p q = absurd (omega arith)
  joins (suc k) a m b below p q =
      elim (eqb_tells m k) [
        | inl t ↦
            let same : m ≡ k = t.1 in
            let to : via e k a k ≡ true = elim (split k a m p) [ inl x ↦ subst (λ z. via e k a z ≡ true) same x | inr x ↦ x.0 ] in
            let from : via e k k b ≡ true = elim (split k m b q) [ inl x ↦ subst (λ z. via e k z b ≡ true) same x | inr x ↦ x.1 ] in
            through k a b to from
        | inr t ↦
            let other : m ≡ k → ⊥ = t.1 in
            elim (split k a m p) [
              | inl x ↦ elim (split k m b q) [
                | inl y ↦ more k a b (joins k a m b (omega arith) x y)
                | inr y ↦ through k a b (joins k a m k (omega arith) x y.0) y.1
              ]
              | inr x ↦ elim (split k m b q) [
                | inl y ↦ through k a b x.0 (joins k k m b (omega arith) x.1 y)
                | inr y ↦ through k a b x.0 y.1
              ]
            ]
      ]

  from_less : (k a b : ℕ) → via e zero a b ≡ true → via e k a b ≡ true
  from_less zero a b h = h
  from_less (suc k) a b h = more k a b (from_less k a b h)

  -- among n nodes
  module _ (n : ℕ) where
    abbrev Edge : ℕ → ℕ → Type 0
    Edge a b = (a < n) × (b < n) × (e a b ≡ true)

    -- what is reached through nodes below k is reached
    pub sound : (k a b : ℕ) → k ≤ n → a < n → b < n → via e k a b ≡ true → Reaches Edge a b
    sound zero a b le wa wb h = elim (or_cases (a == b) (e a b) h) [ inl same ↦ subst (λ z. Reaches Edge a z) ((Decides-eqb a b).0 same) here | inr edge ↦ step (wa, wb, edge) here ]
    sound (suc k) a b le wa wb h = elim (split k a b h) [ inl p ↦ sound k a b (omega arith) wa wb p | inr q ↦ join (sound k a k (omega arith) wa (omega arith) q.0) (sound k k b (omega arith) (omega arith) wb q.1) ]

    itself : (a : ℕ) → via e n a a ≡ true
    itself a = from_less n a a (or_left (a == a) (e a a) ((Decides-eqb a a).1 refl))

    pub complete : {a b : ℕ} → Reaches Edge a b → via e n a b ≡ true
    complete (here {a}) = itself a
    complete (step {a} {b} {c} edge rest) =
        joins n a b c edge.1 (from_less n a b (or_right (a == b) (e a b) edge.2)) (complete rest)
