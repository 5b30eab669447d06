-- What a run answers, and what stands where it has ended.
use Rattle.std.specs.Prelude.{◌≡◌, ℕ, ◌+◌, ◌*◌, ◌<◌, ◌≤◌, List, length, map, slice_index}
use Rattle.shard_rounds.specs.declared.plan.Move.{Move}
use Rattle.shard_rounds.specs.declared.plan.Plan.{Plan}
use Rattle.run_laws.specs.Run.{Run, arrivals, units_before}
use Rattle.run_laws.specs.LawfulPlans.{AreAllPlans}
use Rattle.run_laws.specs.Trace.{served_by, touched_there}
use Rattle.switch_worker.specs.Finished.{AreFinished, HaveHeard}
use Rattle.run_answer.specs.Results.{ArePackets, place_counts}
use Rattle.run_answer.specs.Cells.{all_cells}
use Rattle.switch_net.specs.declared.answer.Answer.{Answer}
use Rattle.switch_net.specs.declared.network.Ended.{Ended}

-- the moves of each plan
abbrev pub moves_of : List Plan → List (List Move)
moves_of plans = map (λ (p : Plan). p.moves.items) plans

-- for each arrival and group, by arrival and then by group: the pipe that served it under these plans and what it touched there;
-- 255 and nothing without a place
pub record AreServed (run : Run) (plans : List (List Move)) (by touched : List ℕ) : Type 0 where
  pub by_size : length by ≡ arrivals run * length run.code.groups
  pub touched_size : length touched ≡ arrivals run * length run.code.groups
  pub served : (t g : ℕ) → t < arrivals run → g < length run.code.groups
      → slice_index by (t * length run.code.groups + g) ≡ served_by run plans t g
  pub arrays : (t g : ℕ) → t < arrivals run → g < length run.code.groups
      → slice_index touched (t * length run.code.groups + g) ≡ touched_there run t g

-- what the staged code gives on the headers of the run, one after another; the lawful plans, and each access under them
pub record IsAnswer (run : Run) (a : Answer) : Type 0 where
  pub count : a.arrivals ≡ arrivals run
  pub packets : ArePackets run a.packets.items
  pub cells : a.cells.items ≡ all_cells run.code (units_before run (arrivals run))
  pub counts : a.counts.items ≡ place_counts run
  pub few : length a.counts.items ≤ 1048576
  pub plans : AreAllPlans run (moves_of a.plans.items)
  pub served : AreServed run (moves_of a.plans.items) a.by.items a.touched.items

-- a run that has ended: its answer, and its workers, each finished
pub record IsEnded (run : Run) (e : Ended) : Type 0 where
  pub answer : IsAnswer run e.answer
  pub workers : AreFinished run e.workers.items
  pub heard : HaveHeard run e.workers.items
