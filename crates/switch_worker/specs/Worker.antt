-- A pipe with its ends of lanes, and the lanes of a run.
use Rattle.std.specs.Prelude.{◌≡◌, ℕ, List}
use Rattle.pair_lane.specs.Lane.{Strand}
use Rattle.pipe_messages.specs.declared.message.Message.{Message}
use Rattle.pipe_messages.specs.declared.message.LaneKey.{LaneKey}
use Rattle.pipe_messages.specs.Messages.{run_in}
use Rattle.pipe_worker.specs.Pipe.{Pipe}
use Rattle.run_laws.specs.Run.{Run}

-- an end of a lane between two pipes
abbrev pub LaneEnd : Type 0
LaneEnd = Strand Message LaneKey

-- a pipe, and its ends of the lanes to each pipe and from each, by number
pub record Worker : Type 0 where
  pub pipe : Pipe
  pub to : List LaneEnd
  pub from : List LaneEnd

-- the end is one of the lane from a pipe of a run to another, or to itself
pub record IsLane (run : Run) (from to : ℕ) (end : LaneEnd) : Type 0 where
  pub of_run : run_in end.key ≡ run
  pub sender : end.key.from ≡ from
  pub receiver : end.key.to ≡ to
