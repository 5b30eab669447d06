-- What the numbering of the first places keeps.
use Rattle.std.specs.Prelude.{◌≡◌, ℕ, ◌+◌, ◌<◌, ◌≤◌, ◌↔◌, List, [], ◌∷◌, ◌++◌, length, slice_index, max, Option, Some, None}
use Rattle.std.specs.List.{slice_index_or}
use Rattle.dependence.specs.Reach.{InOrder}
use Rattle.dependence.specs.Classes.{SameKey, key_at}
use Rattle.dependence.specs.declared.classes.Numbering.{Numbering}

-- the number behind all of these
abbrev pub next_after : ℕ → List ℕ → ℕ
next_after next [] = next
next_after next (x ∷ xs) = next_after (max next (x + 1)) xs

-- another next number
abbrev pub has_next : Numbering → ℕ → Numbering
has_next n next = record { firsts = n.firsts; next = next }

-- the number of the first of some places with a key, where there is one
abbrev pub HasFirst : List (Option ℕ) → List ℕ → ℕ → Option ℕ → Type 0
HasFirst keys numbers k None = (j : ℕ) → j < length numbers → key_at keys j ≡ Some k → ⊥
HasFirst keys numbers k (Some n) = (j : ℕ) × (j < length numbers) × (key_at keys j ≡ Some k) × (n ≡ slice_index numbers j)

-- the first places have these numbers
pub record Numbered (keys : List (Option ℕ)) (numbers : List ℕ) (n : Numbering) : Type 0 where
  pub same : (a b : ℕ) → a < length numbers → b < length numbers → (slice_index numbers a ≡ slice_index numbers b) ↔ SameKey keys a b
  pub ordered : InOrder 0 numbers
  pub next : n.next ≡ next_after 0 numbers
  pub few : n.next ≤ length numbers
  pub long : length n.firsts ≡ 16
  pub firsts : (k : ℕ) → k < 16 → HasFirst keys numbers k (slice_index_or n.firsts k None)

-- whatever the first places are, the next one, of this key, has the number `number`
abbrev pub Numbers : Numbering → Option ℕ → ℕ → Numbering → Type 0
Numbers old key number new = (keys : List (Option ℕ)) (numbers : List ℕ) → Numbered keys numbers old
    → key_at keys (length numbers) ≡ key → Numbered keys (numbers ++ number ∷ []) new
