-- The levels of arrays, by what each rests on.
use Rattle.std.specs.Prelude.{◌≡◌, ℕ, suc, ◌<◌, ◌==◌, ◌||◌, ◌⊎◌, Bool, List, slice_index}
use Rattle.dependence.specs.Paths.{IsDepth}
use Rattle.dependence.specs.Tables.{at}
use Rattle.dependence.specs.Groups.{RestsOn, Linked}

-- whether the table marks that an array reaches another, or both are the same
abbrev pub links : List (List Bool) → ℕ → ℕ → Bool
links rows a b = (a == b) || at rows a b

-- the number is 0 where the array rests on no other, else 1 more than the greatest of the levels of those
pub record IsLevelOver (rows : List (List Bool)) (levels : List ℕ) (a n : ℕ) : Type 0 where
  pub above : (b : ℕ) → RestsOn (Linked rows) a b → slice_index levels b < n
  pub least : (n ≡ 0) ⊎ ((b : ℕ) × RestsOn (Linked rows) a b × (n ≡ suc (slice_index levels b)))

-- the numbers are so for each array
abbrev pub AreNextLevels : List (List Bool) → List ℕ → List ℕ → Type 0
AreNextLevels rows levels next = (a : ℕ) → a < 16 → IsLevelOver rows levels a (slice_index next a)

-- each array has the length of the longest path of arrays that each rest on the next
abbrev pub AreLevels : List (List Bool) → List ℕ → Type 0
AreLevels rows levels = (a : ℕ) → a < 16 → IsDepth (RestsOn (Linked rows)) a (slice_index levels a)
