-- Numbers for places by their keys.
use Rattle.std.specs.Prelude.{◌≡◌, ℕ, ◌<◌, ◌⊎◌, ◌↔◌, List, length, slice_index, Option, Some, None}
use Rattle.std.specs.List.{slice_index_or}
use Rattle.dependence.specs.Reach.{InOrder}

-- a key, where there is one, is the number of an array
abbrev pub IsKey : Option ℕ → Type 0
IsKey None = Unit {0}
IsKey (Some k) = k < 16

-- the key of a place
abbrev pub key_at : List (Option ℕ) → ℕ → Option ℕ
key_at keys i = slice_index_or keys i None

-- both are the same place, or have the same key
abbrev pub SameKey : List (Option ℕ) → ℕ → ℕ → Type 0
SameKey keys i j = (i ≡ j) ⊎ ((k : ℕ) × (key_at keys i ≡ Some k) × (key_at keys j ≡ Some k))

-- one number for each place: the same where the place or the key is the same, in order of first places
pub record AreNumbers (keys : List (Option ℕ)) (numbers : List ℕ) : Type 0 where
  pub long : length numbers ≡ length keys
  pub same : (i j : ℕ) → i < length keys → j < length keys → (slice_index numbers i ≡ slice_index numbers j) ↔ SameKey keys i j
  pub ordered : InOrder 0 numbers
