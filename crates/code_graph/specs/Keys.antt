-- Keys of instructions by the marks of both sides.
use Rattle.std.specs.Prelude.{◌≡◌, ℕ, ◌<◌, ◌&&◌, Bool, true, false, List, length, Option, Some, None}
use Rattle.dependence.specs.Tables.{has}
use Rattle.dependence.specs.Classes.{key_at}
use Rattle.flat_graph.specs.ReachedArrays.{row}

-- whether an instruction is marked at an array on both sides
abbrev pub both : List (List Bool) → List (List Bool) → ℕ → ℕ → Bool
both to from i a = has (row to i) a && has (row from i) a

-- the key is the least array that is marked on both sides; none where there is no such array
abbrev pub IsKeyIn : List (List Bool) → List (List Bool) → ℕ → Option ℕ → Type 0
IsKeyIn to from i None = (a : ℕ) → a < 16 → both to from i a ≡ false
IsKeyIn to from i (Some k) = (k < 16) × (both to from i k ≡ true) × ((a : ℕ) → a < k → both to from i a ≡ false)

-- the keys of so many instructions
pub record AreKeysIn (to from : List (List Bool)) (count : ℕ) (keys : List (Option ℕ)) : Type 0 where
  pub long : length keys ≡ count
  pub keys_are : (i : ℕ) → i < count → IsKeyIn to from i (key_at keys i)
