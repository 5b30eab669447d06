-- The groups of arrays, their levels and numbers, from which array reaches which.
use Rattle.std.specs.Prelude.{◌≡◌, ℕ, ◌<◌, ◌⊎◌, ◌↔◌, Bool, true, List, length, Option, Some, None}
use Rattle.std.specs.List.{slice_index_or}
use Rattle.dependence.specs.Paths.{IsDepth}
use Rattle.dependence.specs.Tables.{has, Marked}

-- b is reached by a, and doesn't reach it: it is of another group, which the group of a rests on
abbrev pub RestsOn : (ℕ → ℕ → Type 0) → ℕ → ℕ → Type 0
RestsOn Q a b = Q a b × (Q b a → ⊥)

-- the group of an array
abbrev pub group_of : List (Option ℕ) → ℕ → Option ℕ
group_of of a = slice_index_or of a None

-- a stands before b: its level is less, or the levels are the same and some array of its group is less than all of
-- the group of b
abbrev pub Before : (ℕ → ℕ → Type 0) → List (Option ℕ) → ℕ → ℕ → Type 0
Before Q of a b = (l : ℕ) × (m : ℕ) × IsDepth (RestsOn Q) a l × IsDepth (RestsOn Q) b m × ((l < m) ⊎ ((l ≡ m) × ((c : ℕ) × (group_of of c ≡ group_of of a) × ((e : ℕ) → group_of of e ≡ group_of of b → c < e))))

-- touched arrays that reach each other are one group; groups are numbered by level, and by least array in a level
pub record AreGroups (T : ℕ → Type 0) (Q : ℕ → ℕ → Type 0) (count : ℕ) (of : List (Option ℕ)) : Type 0 where
  pub touched : (a : ℕ) → a < length of → T a → (g : ℕ) × (g < count) × (group_of of a ≡ Some g)
  pub untouched : (a : ℕ) → a < length of → (T a → ⊥) → group_of of a ≡ None
  pub same : (a b : ℕ) → T a → T b → (group_of of a ≡ group_of of b) ↔ (Q a b × Q b a)
  pub used : (g : ℕ) → g < count → (a : ℕ) × (a < length of) × T a × (group_of of a ≡ Some g)
  pub ordered : (a b g h : ℕ) → group_of of a ≡ Some g → group_of of b ≡ Some h → g < h → Before Q of a b

-- ---- the groups of a table of marks

-- an array is marked
abbrev pub IsOn : List Bool → ℕ → Type 0
IsOn marks a = (a < 16) × (has marks a ≡ true)

-- the table marks that the array reaches the other, or both are the same
abbrev pub Linked : List (List Bool) → ℕ → ℕ → Type 0
Linked rows a b = (a ≡ b) ⊎ Marked rows a b

-- what is marked through others is marked
abbrev pub IsClosed : List (List Bool) → Type 0
IsClosed rows = (a b c : ℕ) → Linked rows a b → Linked rows b c → Linked rows a c
