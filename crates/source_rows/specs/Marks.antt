-- What the marks of a table stand for.
use Rattle.std.specs.Prelude.{◌≡◌, ℕ, ◌<◌, ◌↔◌, Bool, true, List}
use Rattle.dependence.specs.Tables.{at, has}

-- a row has marks exactly at those of sixteen arrays of which this is true
abbrev pub Marks : List Bool → (ℕ → Type 0) → Type 0
Marks row P = (b : ℕ) → b < 16 → (has row b ≡ true) ↔ P b

-- a table has marks exactly at those pairs of which this is true
abbrev pub MarksPairs : List (List Bool) → (ℕ → ℕ → Type 0) → Type 0
MarksPairs table R = (a b : ℕ) → a < 16 → b < 16 → (at table a b ≡ true) ↔ R a b
