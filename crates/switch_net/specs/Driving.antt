-- The drivers of a run, and which plan is due.
use Rattle.std.specs.Prelude.{◌≡◌, ℕ, ◌*◌, ◌<◌, ◌≤◌, List, [], length, slice_index_or, All}
use Rattle.shard_rounds.specs.declared.plan.Move.{Move}
use Rattle.egress_order.specs.OwnPackets.{own_arrival, left_count}
use Rattle.run_laws.specs.Run.{Run, last_round}
use Rattle.run_laws.specs.LawfulPlans.{owners_after}
use Rattle.pipe_worker.specs.Pipe.{Pipe}
use Rattle.pipe_driver.specs.Driver.{Driver, IsSamePipe}
use Rattle.pipe_stations.specs.Row.{IsRow}
use Rattle.pipe_stations.specs.RowSteps.{IsStationFinished}
use Rattle.pipe_worker.specs.Laws.{IsPipe}
use Rattle.round_plans.specs.Planning.{Plans}
use Rattle.switch_net.specs.declared.answer.Answer.{Answer}
use Rattle.switch_net.specs.Building.{HasRoom}

-- the pipe has this number in the run, and knows these plans
pub record IsPipeOf (run : Run) (plans : List (List Move)) (number : ℕ) (s : Pipe) : Type 0 where
  pub of_run : s.run ≡ run
  pub is_number : s.pipe ≡ number
  pub known : s.owners ≡ owners_after run plans

-- there is a driver for each pipe of the run, by number, and each pipe knows these plans
pub record AreDrivers (run : Run) (plans : List (List Move)) (drivers : List Driver) : Type 0 where
  pub count : length drivers ≡ run.settings.pipelines
  pub each : (p : ℕ) (d : Driver) → p < length drivers → IsPipeOf run plans p (slice_index_or drivers p d).worker.pipe

-- a pipe has nothing left to do, and keeps its laws
pub record HasStopped (s : Pipe) : Type 0 where
  pub left : left_count s.door.exit ≡ length s.door.exit.home
  pub stations : All IsStationFinished s.row.stations
  pub laws : IsPipe s
  pub row : IsRow s.row

-- so has each pipe
abbrev pub HaveStopped : List Driver → Type 0
HaveStopped drivers = (p : ℕ) (d : Driver) → p < length drivers → HasStopped (slice_index_or drivers p d).worker.pipe

-- each pipe is the same one of the same run, and knows the same plans
pub record AreSamePipes (old new : List Driver) : Type 0 where
  pub count : length new ≡ length old
  pub each : (p : ℕ) (d : Driver) → p < length old
      → IsSamePipe (slice_index_or old p d).worker.pipe (slice_index_or new p d).worker.pipe

-- ---- due plans

-- all own arrivals of a pipe below one have entered
abbrev pub HaveEntered : Pipe → ℕ → Type 0
HaveEntered s end = end ≤ own_arrival s.door.exit s.door.exit.entered

-- a plan is left to decide, and all arrivals that it looks at have entered
pub record IsDue (p : Plans) (drivers : List Driver) : Type 0 where
  pub left : length p.plans < last_round p.run
  pub entered : (i : ℕ) (d : Driver) → i < length drivers
      → HaveEntered (slice_index_or drivers i d).worker.pipe (length p.plans * p.run.settings.round)

-- ---- a network

-- the parts of a network before its first turn: no plan is decided, and there is room for the answer
pub record IsNetwork (run : Run) (planner : Plans) (drivers : List Driver) (answer : Answer) : Type 0 where
  pub of_run : planner.run ≡ run
  pub none : planner.plans ≡ []
  pub drivers_are : AreDrivers run [] drivers
  pub room : HasRoom run [] answer
