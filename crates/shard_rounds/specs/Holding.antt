-- What an owner table keeps beside its plans: the owners now by group, and all moves in one list.
use Rattle.std.specs.Prelude.{◌≡◌, ℕ, zero, suc, ◌*◌, ◌<◌, ◌≤◌, ◌==◌, ◌&&◌, Bool, List, [], ◌∷◌, ◌++◌, length, take, drop, slice_index, slice_index_or, slice_set, sum, ⊤}
use Rattle.shard_rounds.specs.declared.plan.Move.{Move}
use Rattle.shard_rounds.specs.Rounds.{OwnerTable, IsTable, owner_now, after_moves, first_owner}

-- the moves cut into plans of these sizes
abbrev pub cut : List ℕ → List Move → List (List Move)
cut [] log = []
cut (n ∷ ns) log = take n log ∷ cut ns (drop n log)

-- a group's row
abbrev pub row_at : List (List ℕ) → ℕ → List ℕ
row_at rows g = slice_index_or rows g []

-- the first owners of a group
abbrev pub first_row : ℕ → ℕ → ℕ → List ℕ
first_row pipelines g zero = []
first_row pipelines g (suc n) = first_row pipelines g n ++ first_owner pipelines g n ∷ []

-- whether the move is one of the unit
abbrev pub concerns : ℕ → ℕ → Move → Bool
concerns g u m = m.group == g && m.unit == u

-- the rows after a move, and after some
abbrev pub moved_row : List (List ℕ) → Move → List (List ℕ)
moved_row rows m = slice_set rows m.group (slice_set (row_at rows m.group) m.unit m.taker)

abbrev pub moved_rows : List (List ℕ) → List Move → List (List ℕ)
moved_rows rows [] = rows
moved_rows rows (m ∷ ms) = moved_rows (moved_row rows m) ms

-- the rows have the unit of the move
pub record HasUnit (rows : List (List ℕ)) (m : Move) : Type 0 where
  pub group : m.group < length rows
  pub unit : m.unit < length (row_at rows m.group)

-- each move is given by the owner after those before it
abbrev pub AreGiven : ℕ → List Move → List Move → Type 0
AreGiven pipelines before [] = ⊤
AreGiven pipelines before (m ∷ ms) = (m.giver ≡ after_moves m.group m.unit (first_owner pipelines m.group m.unit) before) × AreGiven pipelines (before ++ m ∷ []) ms

-- the rows have a number for each unit, given by a function of group and unit
pub record RowsAre (units : List ℕ) (rows : List (List ℕ)) (f : ℕ → ℕ → ℕ) : Type 0 where
  pub groups : length rows ≡ length units
  pub widths : (g : ℕ) → g < length units → length (row_at rows g) ≡ slice_index units g
  pub numbers : (g u : ℕ) → g < length units → u < slice_index units g → slice_index (row_at rows g) u ≡ f g u

-- the rows, the moves and the room are those of the table
pub record Holds (o : OwnerTable) (rows : List (List ℕ)) (log : List Move) (sizes : List ℕ) (log_room sizes_room : ℕ) : Type 0 where
  pub table : IsTable o
  pub rows_are : RowsAre o.units rows (owner_now o)
  pub whole : sum sizes ≡ length log
  pub counted : length sizes ≡ length o.plans
  pub given : AreGiven o.pipelines [] log
  pub few : length log ≤ length o.plans * length o.units
  pub logs : o.room * length o.units ≤ log_room
  pub plans_fit : o.room ≤ sizes_room
