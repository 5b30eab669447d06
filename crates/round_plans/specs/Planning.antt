-- The plans of a run that are decided.
use Rattle.std.specs.Prelude.{◌≡◌, ◌*◌, ◌≤◌, ℤ, List, [], length}
use Rattle.mp5_words.specs.declared.settings.Settings.{Settings}
use Rattle.code_forms.specs.Staged.{Staged}
use Rattle.shard_rounds.specs.declared.plan.Move.{Move}
use Rattle.shard_rounds.specs.Rounds.{OwnerTable}
use Rattle.shard_rounds.specs.Choice.{IsChoice}
use Rattle.run_laws.specs.Run.{Run, run_of}
use Rattle.run_laws.specs.LawfulPlans.{AreLawful, loads_below, owners_after}
use Rattle.round_plans.specs.Counting.{Counted}

-- a run and its first plans
pub record Plans : Type 0 where
  pub run : Run
  pub plans : List (List Move)

-- the run of code, headers and settings before any plan
abbrev pub no_plans : Staged → List (List ℤ) → Settings → Plans
no_plans code headers settings = record { run = run_of code headers settings; plans = [] }

-- the owners are those of the run after some lawful plans, and no arrival is counted that the last of these didn't
-- look at
pub record IsPlanner (c : Counted) (o : OwnerTable) : Type 0 where
  pub owners : o ≡ owners_after c.run o.plans
  pub lawful : AreLawful c.run o.plans
  pub behind : c.below ≤ length o.plans * c.run.settings.round

-- the moves are the choice of these owners, who know a plan for each round but the first so far
abbrev pub IsNextChoice : Run → OwnerTable → List Move → Type 0
IsNextChoice run o moves = IsChoice (loads_below run (length o.plans * run.settings.round)) o moves
