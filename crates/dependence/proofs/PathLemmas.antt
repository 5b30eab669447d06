-- Depths are longest paths.
use Rattle.std.proofs.Common.{◌≡◌, ℕ, zero, suc, ◌<◌, ◌≤◌, refl, arith, inl, inr, ◌⊎◌}
use Rattle.dependence.specs.Paths.{HasPath, IsDepth}

-- depths that exceed those of what is depended on, by one where not 0, are those of the longest paths
module _ (R : ℕ → ℕ → Type 0) (depth : ℕ → ℕ)
    (above : (c d : ℕ) → R c d → depth d < depth c)
    (least : (c : ℕ) → (depth c ≡ 0) ⊎ ((d : ℕ) × R c d × (depth c ≡ suc (depth d)))) where
  bounded : (m c : ℕ) → HasPath R m c → m ≤ depth c
  bounded zero c h = omega arith
  bounded (suc m) c h = let r = bounded m h.0 h.2 in let s = above c h.0 h.1 in omega arith

  reached : (n c : ℕ) → depth c ≡ n → HasPath R n c
  reached zero c e = tt
  reached (suc n) c e = elim (least c) [ inl z ↦ absurd (omega arith) | inr s ↦ (s.0, s.1, reached n s.0 (omega (arith, s.2, e))) ]

  pub depths : (c : ℕ) → IsDepth R c (depth c)
  depths c = record { has = reached (depth c) c refl; longest = λ m h. bounded m c h }

-- a relation that says the same has the same depths
pub path_along : (R S : ℕ → ℕ → Type 0) → ((a b : ℕ) → R a b → S a b) → (n c : ℕ) → HasPath R n c → HasPath S n c
path_along R S to zero c h = tt
path_along R S to (suc n) c h = (h.0, to c h.0 h.1, path_along R S to n h.0 h.2)

pub depth_along : (R S : ℕ → ℕ → Type 0) → ((a b : ℕ) → R a b → S a b) → ((a b : ℕ) → S a b → R a b) → (c n : ℕ) → IsDepth R c n → IsDepth S c n
depth_along R S to from c n h = record { has = path_along R S to n c h.has; longest = λ m p. h.longest m (path_along S R from m c p) }

pub one_depth : (R : ℕ → ℕ → Type 0) (c m n : ℕ) → IsDepth R c m → IsDepth R c n → m ≡ n
one_depth R c m n h k = let p : m ≤ n = k.longest m h.has in let q : n ≤ m = h.longest n k.has in omega arith
