-- The workers of a run that has ended.
use Rattle.std.specs.Prelude.{◌≡◌, ℕ, ◌<◌, List, length, slice_index_or, All}
use Rattle.egress_order.specs.OwnPackets.{left_count, own_count}
use Rattle.run_laws.specs.Run.{Run, arrivals}
use Rattle.pipe_stations.specs.Row.{IsRow}
use Rattle.pipe_stations.specs.RowSteps.{IsStationFinished}
use Rattle.pipe_messages.specs.Messages.{phantoms_in, own_arrivals}
use Rattle.pipe_worker.specs.Pipe.{Pipe}
use Rattle.pipe_worker.specs.Laws.{IsPipe}
use Rattle.switch_worker.specs.Worker.{Worker, LaneEnd, IsLane}

-- a pipe of the run has this number and nothing left to do
pub record IsFinished (run : Run) (number : ℕ) (s : Pipe) : Type 0 where
  pub of_run : s.run ≡ run
  pub is_number : s.pipe ≡ number
  pub left : left_count s.door.exit ≡ length s.door.exit.home
  pub laws : IsPipe s
  pub row : IsRow s.row
  pub stations : All IsStationFinished s.row.stations

-- there is a worker for each pipe of the run, by number, and each has finished
pub record AreFinished (run : Run) (workers : List Worker) : Type 0 where
  pub count : length workers ≡ run.settings.pipelines
  pub each : (p : ℕ) (w : Worker) → p < length workers → IsFinished run p (slice_index_or workers p w).pipe

-- the phantoms of all arrivals of a pipe were received on its lane to another, in order
abbrev pub HeardAll : Run → ℕ → LaneEnd → Type 0
HeardAll run p end = phantoms_in end.items ≡ own_arrivals run p 0 (own_count p run.settings.pipelines (arrivals run))

-- the end at a pipe of the lane from another: where the code has a group, all phantoms were received on it
pub record IsHeard (run : Run) (from to : ℕ) (end : LaneEnd) : Type 0 where
  pub lane : IsLane run from to end
  pub all : 0 < length run.code.groups → HeardAll run from end

-- each worker has an end of the lane from each pipe, on which all was heard
pub record HaveHeard (run : Run) (workers : List Worker) : Type 0 where
  pub count : (q : ℕ) (w : Worker) → q < length workers → length (slice_index_or workers q w).from ≡ run.settings.pipelines
  pub each : (p q : ℕ) (w : Worker) (e : LaneEnd) → q < length workers → p < run.settings.pipelines
      → IsHeard run p q (slice_index_or (slice_index_or workers q w).from p e)
