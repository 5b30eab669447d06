-- Reaching in a relation, and the classes of what reaches each other.
use Rattle.std.specs.Prelude.{◌≡◌, ℕ, ◌+◌, ◌<◌, ◌≤◌, ◌↔◌, List, [], ◌∷◌, length, slice_index, max}

-- what is reached by steps of the relation, possibly by none
pub data Reaches (R : ℕ → ℕ → Type 0) : ℕ → ℕ → Type 0 where
  here : {a : ℕ} → Reaches R a a
  step : {a b c : ℕ} → R a b → Reaches R b c → Reaches R a c

-- each reaches the other
abbrev pub Mutual : (ℕ → ℕ → Type 0) → ℕ → ℕ → Type 0
Mutual R a b = Reaches R a b × Reaches R b a

-- numbers from a next one on, in order of their first places: each came before, or is the next one
abbrev pub InOrder : ℕ → List ℕ → Type 0
InOrder next [] = Unit {0}
InOrder next (x ∷ xs) = (x ≤ next) × InOrder (max next (x + 1)) xs

-- one number for each of some nodes: that of its class of mutual reaching, in order of the classes' first members
pub record AreClasses (R : ℕ → ℕ → Type 0) (nodes : ℕ) (numbers : List ℕ) : Type 0 where
  pub long : length numbers ≡ nodes
  pub same : (i j : ℕ) → i < nodes → j < nodes → (slice_index numbers i ≡ slice_index numbers j) ↔ Mutual R i j
  pub ordered : InOrder 0 numbers
