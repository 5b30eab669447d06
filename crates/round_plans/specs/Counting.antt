-- A run whose first arrivals are counted, and what one more arrival adds to the loads.
use Rattle.std.specs.Prelude.{◌≡◌, ℕ, zero, suc, ◌+◌, ◌<◌, ◌≤◌, List, [], ◌∷◌, length, slice_index, slice_set, sum, All}
use Rattle.code_forms.specs.Staged.{slot_count}
use Rattle.shard_rounds.specs.Rounds.{AreUnits}
use Rattle.shard_rounds.specs.Holding.{row_at}
use Rattle.run_laws.specs.Run.{Run, arrivals, last_round, unit_counts}
use Rattle.run_laws.specs.LawfulPlans.{loads_below}

-- a run, and the first arrival that isn't counted
pub record Counted : Type 0 where
  pub run : Run
  pub below : ℕ

-- headers are as wide as the code wants, and there are no more arrivals and units than there may be
pub record IsWellFormed (run : Run) : Type 0 where
  pub wide : All (λ header. length header ≡ run.code.fields) run.headers
  pub few : arrivals run ≤ 262144
  pub units : AreUnits (unit_counts run)

-- the last round is the run's, the loads are those of the arrivals before one, and there is room for the header run
pub record AreCounted (run : Run) (last below : ℕ) (loads : List (List ℕ)) (slots : ℕ) : Type 0 where
  pub well : IsWellFormed run
  pub last_is : last ≡ last_round run
  pub within : below ≤ arrivals run
  pub loads_are : loads ≡ loads_below run below
  pub room : slots ≡ slot_count run.code

-- ---- one more arrival, whose places are numbers: 0 for none, else 1 more than the unit

-- a group's loads with one more place
abbrev pub row_with : List ℕ → ℕ → List ℕ
row_with row zero = row
row_with row (suc u) = slice_set row u (slice_index row u + 1)

-- the loads with one more place at each group
abbrev pub loads_with : List (List ℕ) → List ℕ → List (List ℕ)
loads_with [] places = []
loads_with (row ∷ rows) [] = row ∷ rows
loads_with (row ∷ rows) (p ∷ places) = row_with row p ∷ loads_with rows places

-- each place is a unit that the loads have, and fewer places than can be counted are in its group so far
pub record IsPlace (loads : List (List ℕ)) (g u : ℕ) : Type 0 where
  pub group : g < length loads
  pub unit : u < length (row_at loads g)
  pub few : sum (row_at loads g) < 262144

abbrev pub ArePlaces : List (List ℕ) → List ℕ → Type 0
ArePlaces loads places = (g u : ℕ) → g < length places → slice_index places g ≡ suc u → IsPlace loads g u
