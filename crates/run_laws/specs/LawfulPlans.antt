-- The plans of a run: which there are, and what they make of the owners of units.
use Rattle.std.specs.Prelude.{◌≡◌, ℕ, zero, suc, ◌+◌, ◌*◌, ◌<◌, ◌≤◌, List, [], ◌∷◌, ◌++◌, length, take, slice_index, slice_index_or}
use Rattle.shard_rounds.specs.declared.plan.Move.{Move}
use Rattle.shard_rounds.specs.Rounds.{OwnerTable, owner}
use Rattle.shard_rounds.specs.Choice.{IsChoice}
use Rattle.run_laws.specs.Run.{Run, last_round, load_below, unit_counts}

-- the numbers that a function gives below a limit
abbrev pub row_below : (ℕ → ℕ) → ℕ → List ℕ
row_below f zero = []
row_below f (suc n) = row_below f n ++ f n ∷ []

-- the loads of the units of some groups, from a group on
abbrev pub load_rows : Run → ℕ → ℕ → List ℕ → List (List ℕ)
load_rows run t g [] = []
load_rows run t g (n ∷ counts) = row_below (λ u. load_below run g u t) n ∷ load_rows run t (suc g) counts

-- the loads of all units: their places among the first arrivals
abbrev pub loads_below : Run → ℕ → List (List ℕ)
loads_below run t = load_rows run t 0 (unit_counts run)

-- the owners of all units after some plans
abbrev pub owners_after : Run → List (List Move) → OwnerTable
owners_after run plans = record { units = unit_counts run; pipelines = run.settings.pipelines; room = last_round run; plans = plans }

-- a plan is made between two rounds, and there is none behind the last. The plan before round e + 1 is the choice by the
-- owners of round e and by the places of all arrivals before that round
pub record AreLawful (run : Run) (plans : List (List Move)) : Type 0 where
  pub few : length plans ≤ last_round run
  pub chosen : (e : ℕ) → e < length plans → IsChoice (loads_below run (e * run.settings.round)) (owners_after run (take e plans)) (slice_index_or plans e [])

-- all plans of the run
pub record AreAllPlans (run : Run) (plans : List (List Move)) : Type 0 where
  pub lawful : AreLawful run plans
  pub all : length plans ≡ last_round run

-- a pipe owns a unit in a round, by the first plans of the run: some lawful list reaches so far, and no two differ there
abbrev pub Owns : Run → ℕ → ℕ → ℕ → ℕ → Type 0
Owns run e g u p = (plans : List (List Move)) × AreLawful run plans × (e ≤ length plans) × (owner run.settings.pipelines plans e g u ≡ p)
