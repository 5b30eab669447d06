-- The loads of the units, and the moves that are chosen by them.
use Rattle.std.specs.Prelude.{◌≡◌, ℕ, zero, suc, ◌+◌, ◌-◌, ◌*◌, ◌<◌, ◌≤◌, ◌==◌, if◌then◌else◌, List, [], ◌∷◌, ◌++◌, length, slice_index, slice_set, sum, Option, Some, None}
use Rattle.shard_rounds.specs.declared.plan.Move.{Move}
use Rattle.shard_rounds.specs.Rounds.{OwnerTable, owner_now}
use Rattle.shard_rounds.specs.Holding.{row_at}

-- the load of a unit
abbrev pub load : List (List ℕ) → ℕ → ℕ → ℕ
load loads g u = slice_index (row_at loads g) u

-- the loads with one more place of a unit
abbrev pub added : List (List ℕ) → ℕ → ℕ → List (List ℕ)
added loads g u = slice_set loads g (slice_set (row_at loads g) u (load loads g u + 1))

-- what is true of all loads
pub record AreLoads (loads : List (List ℕ)) : Type 0 where
  pub groups : length loads ≤ 16
  pub few : (g : ℕ) → sum (row_at loads g) ≤ 262144

-- the total load of a pipe: the sum over the units that it owns
abbrev pub total : List ℕ → List ℕ → ℕ → ℕ
total [] loads p = 0
total (o ∷ os) [] p = 0
total (o ∷ os) (l ∷ ls) p = (if o == p then l else 0) + total os ls p

-- the first number below n at which f is greatest
pub record IsFirstMost (n : ℕ) (f : ℕ → ℕ) (i : ℕ) : Type 0 where
  pub within : i < n
  pub most : (j : ℕ) → j < n → f j ≤ f i
  pub first : (j : ℕ) → j < i → f j < f i

-- the first number below n at which f is least
pub record IsFirstLeast (n : ℕ) (f : ℕ → ℕ) (i : ℕ) : Type 0 where
  pub within : i < n
  pub least : (j : ℕ) → j < n → f i ≤ f j
  pub first : (j : ℕ) → j < i → f i < f j

-- the giver owns the unit, it has a load, and its double is at most the gap
pub record MayGo (owners loads : List ℕ) (giver gap u : ℕ) : Type 0 where
  pub within : u < length owners
  pub owned : slice_index owners u ≡ giver
  pub loaded : 1 ≤ slice_index loads u
  pub half : 2 * slice_index loads u ≤ gap

-- the unit is the one with the greatest load of those that may go, by least number
pub record IsBest (owners loads : List ℕ) (giver gap u : ℕ) : Type 0 where
  pub may : MayGo owners loads giver gap u
  pub most : (v : ℕ) → MayGo owners loads giver gap v → slice_index loads v ≤ slice_index loads u
  pub first : (v : ℕ) → MayGo owners loads giver gap v → v < u → slice_index loads v < slice_index loads u

-- the unit that goes, where one may
abbrev pub IsUnitChoice : List ℕ → List ℕ → ℕ → ℕ → Option ℕ → Type 0
IsUnitChoice owners loads giver gap None = (u : ℕ) → MayGo owners loads giver gap u → ⊥
IsUnitChoice owners loads giver gap (Some u) = IsBest owners loads giver gap u

-- the move of the unit, where one goes
abbrev pub move_of : ℕ → ℕ → ℕ → Option ℕ → List Move
move_of g giver taker None = []
move_of g giver taker (Some u) = record { group = g; unit = u; giver = giver; taker = taker } ∷ []

-- the move of a group: from the pipe with the greatest total to the one with the least
pub record IsGroupChoice (owners loads : List ℕ) (pipelines g : ℕ) (moves : List Move) : Type 0 where
  pub giver : ℕ
  pub taker : ℕ
  pub unit : Option ℕ
  pub gives : IsFirstMost pipelines (total owners loads) giver
  pub takes : IsFirstLeast pipelines (total owners loads) taker
  pub chosen : IsUnitChoice owners loads giver (total owners loads giver - total owners loads taker) unit
  pub is : moves ≡ move_of g giver taker unit

-- the owners of the first units of a group
abbrev pub owner_row : OwnerTable → ℕ → ℕ → List ℕ
owner_row o g zero = []
owner_row o g (suc n) = owner_row o g n ++ owner_now o g n ∷ []

-- the owners of all units of a group
abbrev pub owners_of : OwnerTable → ℕ → List ℕ
owners_of o g = owner_row o g (slice_index o.units g)

-- the moves of the first groups, in order
abbrev pub IsChoiceBelow : List (List ℕ) → OwnerTable → ℕ → List Move → Type 0
IsChoiceBelow loads o zero moves = moves ≡ []
IsChoiceBelow loads o (suc n) moves = (before : List Move) × (after : List Move) × IsChoiceBelow loads o n before × IsGroupChoice (owners_of o n) (row_at loads n) o.pipelines n after × (moves ≡ before ++ after)

-- the moves of all groups
abbrev pub IsChoice : List (List ℕ) → OwnerTable → List Move → Type 0
IsChoice loads o moves = IsChoiceBelow loads o (length loads) moves

-- loads and owners are over the same units
pub record AreOverSame (loads : List (List ℕ)) (o : OwnerTable) : Type 0 where
  pub groups : length loads ≡ length o.units
  pub units : (g : ℕ) → g < length loads → length (row_at loads g) ≡ slice_index o.units g
