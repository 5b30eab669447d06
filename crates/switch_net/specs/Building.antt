-- The parts of a network while it is built.
use Rattle.std.specs.Prelude.{◌≡◌, ℕ, ◌+◌, ◌*◌, ◌<◌, ◌≤◌, List, [], length, slice_index_or, sum, vec_capacity}
use Rattle.shard_rounds.specs.declared.plan.Move.{Move}
use Rattle.shard_rounds.specs.declared.plan.Plan.{Plan}
use Rattle.run_laws.specs.Run.{Run, arrivals, last_round, unit_counts}
use Rattle.pipe_worker.specs.Pipe.{first_pipe}
use Rattle.switch_worker.specs.Worker.{Worker, LaneEnd}
use Rattle.pipe_driver.specs.Driver.{IsNewLane}
use Rattle.run_answer.specs.Cells.{cell_count}
use Rattle.switch_net.specs.declared.answer.Answer.{Answer}

-- ---- lanes

-- a worker to which nothing has happened, with new lanes to the first pipes and from the first pipes, as many as it has
pub record HasNewLanes (run : Run) (number : ℕ) (w : Worker) : Type 0 where
  pub pipe : w.pipe ≡ first_pipe run number
  pub to_each : (q : ℕ) (end : LaneEnd) → q < length w.to → IsNewLane run number q (slice_index_or w.to q end)
  pub from_each : (p : ℕ) (end : LaneEnd) → p < length w.from → IsNewLane run p number (slice_index_or w.from p end)

-- how many lanes a worker has where those from the pipes before the next one are laid, and of those from the next one so many
-- senders and so many receivers are given to their workers
pub record HasLanesFrom (run : Run) (next senders receivers number : ℕ) (w : Worker) : Type 0 where
  pub lanes : HasNewLanes run number w
  pub to_all : number < next → length w.to ≡ run.settings.pipelines
  pub to_first : number ≡ next → length w.to ≡ senders
  pub to_none : next < number → length w.to ≡ 0
  pub from_next : number < receivers → length w.from ≡ next + 1
  pub from_before : receivers ≤ number → length w.from ≡ next

-- there is a worker for each pipe of the run, by number, and each has these lanes
pub record AreLaid (run : Run) (next senders receivers : ℕ) (workers : List Worker) : Type 0 where
  pub count : length workers ≡ run.settings.pipelines
  pub each : (i : ℕ) (w : Worker) → i < length workers → HasLanesFrom run next senders receivers i (slice_index_or workers i w)

-- ---- the answer

-- the first of so many plans are these, and the others are empty and have room for a move of each group
pub record ArePlanned (decided : List (List Move)) (last : ℕ) (plans : List Plan) : Type 0 where
  pub size : length plans ≡ last
  pub made : (e : ℕ) (p : Plan) → e < length decided → (slice_index_or plans e p).moves.items ≡ slice_index_or decided e []
  pub empty : (e : ℕ) (p : Plan) → length decided ≤ e → e < last → (slice_index_or plans e p).moves.items ≡ []
  pub room : (e : ℕ) (p : Plan) → length decided ≤ e → e < last → 16 ≤ vec_capacity (slice_index_or plans e p).moves

-- nothing is answered yet, and there is room for all, with the first plans
pub record HasRoom (run : Run) (decided : List (List Move)) (a : Answer) : Type 0 where
  pub count : a.arrivals ≡ arrivals run
  pub packets : length a.packets.items ≡ arrivals run * run.code.fields
  pub cells : a.cells.items ≡ []
  pub counts : a.counts.items ≡ []
  pub by : a.by.items ≡ []
  pub touched : a.touched.items ≡ []
  pub cells_room : cell_count run.code (length run.code.arrays) ≤ vec_capacity a.cells
  pub counts_room : sum (unit_counts run) ≤ vec_capacity a.counts
  pub by_room : arrivals run * length run.code.groups ≤ vec_capacity a.by
  pub touched_room : arrivals run * length run.code.groups ≤ vec_capacity a.touched
  pub plans : ArePlanned decided (last_round run) a.plans.items
