-- Longest paths in a relation.
use Rattle.std.specs.Prelude.{ℕ, zero, suc, ◌≤◌}

-- a path of so many steps begins here
abbrev pub HasPath : (ℕ → ℕ → Type 0) → ℕ → ℕ → Type 0
HasPath R zero c = Unit {0}
HasPath R (suc n) c = (d : ℕ) × R c d × HasPath R n d

-- the longest path that begins here has so many steps
pub record IsDepth (R : ℕ → ℕ → Type 0) (c n : ℕ) : Type 0 where
  pub has : HasPath R n c
  pub longest : (m : ℕ) → HasPath R m c → m ≤ n
