-- A table of marks for pairs of arrays.
use Rattle.std.specs.Prelude.{◌≡◌, ℕ, zero, suc, ◌<◌, ◌==◌, ◌&&◌, ◌||◌, ◌↔◌, Bool, true, false, List, []}
use Rattle.std.specs.List.{slice_index_or}
use Rattle.dependence.specs.Reach.{Reaches}

-- whether a row has a mark at an array
abbrev pub has : List Bool → ℕ → Bool
has row b = slice_index_or row b false

-- whether the row of an array has a mark at another
abbrev pub at : List (List Bool) → ℕ → ℕ → Bool
at rows a b = has (slice_index_or rows a []) b

-- the relation that a table of sixteen arrays marks
abbrev pub Marked : List (List Bool) → ℕ → ℕ → Type 0
Marked rows a b = (a < 16) × (b < 16) × (at rows a b ≡ true)

-- the row marks what the node's row marks too, where it marks the node
abbrev pub Passes : ℕ → List Bool → List Bool → List Bool → Type 0
Passes node through old new = (b : ℕ) → b < 16 → has new b ≡ (has old b || (has old node && has through b))

-- each row marks what the node's row marks too, where it marks the node
abbrev pub PassesAll : ℕ → List (List Bool) → List (List Bool) → Type 0
PassesAll node old new = (a b : ℕ) → a < 16 → b < 16 → at new a b ≡ (at old a b || (at old a node && at old node b))

-- the table marks what is reached in the other one's relation, by any number of steps; by none, where nodes differ
abbrev pub Closes : List (List Bool) → List (List Bool) → Type 0
Closes old new = (a b : ℕ) → a < 16 → b < 16 → (((a == b) || at new a b) ≡ true) ↔ Reaches (Marked old) a b

-- whether one is reached from the other through nodes below a number alone
abbrev pub via : (ℕ → ℕ → Bool) → ℕ → ℕ → ℕ → Bool
via e zero a b = (a == b) || e a b
via e (suc k) a b = via e k a b || (via e k a k && via e k k b)
