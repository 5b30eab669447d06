-- Drivers that learn a plan, one after another.
use Rattle.std.proofs.Common.{◌≡◌, ℕ, ◌<◌, ◌≤◌, List, [], ◌∷◌, ◌++◌, length, slice_index_or}
use Rattle.shard_rounds.specs.declared.plan.Move.{Move}
use Rattle.run_laws.specs.Run.{Run}
use Rattle.pipe_driver.specs.Driver.{Driver}
use Rattle.switch_net.specs.Driving.{IsPipeOf}

-- the first drivers know one plan more than the others
pub record AreLearning (run : Run) (plans : List (List Move)) (moves : List Move) (k : ℕ) (drivers : List Driver) : Type 0 where
  pub count : length drivers ≡ run.settings.pipelines
  pub learned : (p : ℕ) (d : Driver) → p < k → p < length drivers → IsPipeOf run (plans ++ moves ∷ []) p (slice_index_or drivers p d).worker.pipe
  pub rest : (p : ℕ) (d : Driver) → k ≤ p → p < length drivers → IsPipeOf run plans p (slice_index_or drivers p d).worker.pipe
