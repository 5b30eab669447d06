-- A worker with the messages in its hands, and what is kept of each of its lanes.
use Rattle.std.specs.Prelude.{◌≡◌, ℕ, ◌+◌, ◌*◌, ◌<◌, min, List, [], ◌∷◌, ◌++◌, length, slice_index, slice_index_or, All, IfSome, Option, Some, None}
use Rattle.run_laws.specs.Run.{Run, arrivals}
use Rattle.group_station.specs.Station.{Station}
use Rattle.pipe_messages.specs.declared.message.Message.{Message}
use Rattle.pipe_messages.specs.Messages.{Fits, phantoms_in, own_arrivals}
use Rattle.pipe_worker.specs.Pipe.{Pipe, waiting, station, first_pipe}
use Rattle.switch_worker.specs.Worker.{Worker, LaneEnd, IsLane}

-- a worker, and for each lane the message that is on its way between the pipe and the lane, if there is one: to each pipe one
-- that waited and was taken out and isn't sent, and from each one that was received and that the pipe had no room for
pub record Driver : Type 0 where
  pub worker : Worker
  pub unsent : List (Option Message)
  pub held : List (Option Message)

-- a message, if there is one, as a list
abbrev pub listed : Option Message → List Message
listed None = []
listed (Some m) = m ∷ []

-- ---- the lanes

-- a lane to a pipe: the next message fits it, and the phantoms that were sent on it, that come next and that wait are as many as
-- the own arrivals that entered
pub record IsSender (s : Pipe) (q : ℕ) (end : LaneEnd) (unsent : Option Message) : Type 0 where
  pub lane : IsLane s.run s.pipe q end
  pub next : IfSome unsent (Fits end.key end.items)
  pub told : length (phantoms_in (end.items ++ listed unsent)) + length (phantoms_in (waiting s q)) ≡ s.door.exit.entered

-- at each group so many arrivals of a pipe were announced
abbrev pub HasFloors : Pipe → ℕ → ℕ → Type 0
HasFloors s p n = (g : ℕ) → g < length s.row.stations
    → slice_index (station s g).queue.floors p ≡ min (p + n * s.run.settings.pipelines) (arrivals s.run)

-- a lane from a pipe: all that was received was taken in, but for the one that is held, which fits after them. The phantoms
-- are those of its arrivals in order, and those that were taken in are announced at each group
pub record IsReceiver (s : Pipe) (p : ℕ) (end : LaneEnd) (held : Option Message) : Type 0 where
  pub lane : IsLane s.run p s.pipe end
  pub taken : List Message
  pub items : end.items ≡ taken ++ listed held
  pub next : IfSome held (Fits end.key taken)
  pub order : phantoms_in end.items ≡ own_arrivals s.run p 0 (length (phantoms_in end.items))
  pub early : All (λ t. t < arrivals s.run) (phantoms_in end.items)
  pub floors : HasFloors s p (length (phantoms_in taken))

-- a station of the run, whose queue has a floor for each pipe
pub record IsQueued (run : Run) (x : Station) : Type 0 where
  pub of_run : x.run ≡ run
  pub sources : x.queue.sources ≡ run.settings.pipelines
  pub limit : x.queue.arrivals ≡ arrivals run
  pub size : length x.queue.floors ≡ run.settings.pipelines

-- a pipe has a station for each group, each of them of the run
pub record HasQueues (s : Pipe) : Type 0 where
  pub count : length s.row.stations ≡ length s.run.code.groups
  pub each : (g : ℕ) → g < length s.row.stations → IsQueued s.run (station s g)

-- what is true of each driver: there is a lane to each pipe and one from each, and all of them are as they should be
pub record IsDriver (d : Driver) : Type 0 where
  pub to : length d.worker.to ≡ d.worker.pipe.run.settings.pipelines
  pub from : length d.worker.from ≡ d.worker.pipe.run.settings.pipelines
  pub unsent : length d.unsent ≡ d.worker.pipe.run.settings.pipelines
  pub held : length d.held ≡ d.worker.pipe.run.settings.pipelines
  pub queues : HasQueues d.worker.pipe
  pub sends : (q : ℕ) (end : LaneEnd) → q < d.worker.pipe.run.settings.pipelines
      → IsSender d.worker.pipe q (slice_index_or d.worker.to q end) (slice_index_or d.unsent q None)
  pub receives : (p : ℕ) (end : LaneEnd) → p < d.worker.pipe.run.settings.pipelines
      → IsReceiver d.worker.pipe p (slice_index_or d.worker.from p end) (slice_index_or d.held p None)

-- ---- the start

-- nothing went over a lane yet
pub record IsNewLane (run : Run) (from to : ℕ) (end : LaneEnd) : Type 0 where
  pub lane : IsLane run from to end
  pub none : end.items ≡ []

-- the worker of a pipe of a run, before anything happened
pub record IsNewWorker (run : Run) (number : ℕ) (w : Worker) : Type 0 where
  pub pipe : w.pipe ≡ first_pipe run number
  pub to_count : length w.to ≡ run.settings.pipelines
  pub from_count : length w.from ≡ run.settings.pipelines
  pub to : (q : ℕ) (end : LaneEnd) → q < run.settings.pipelines → IsNewLane run number q (slice_index_or w.to q end)
  pub from : (p : ℕ) (end : LaneEnd) → p < run.settings.pipelines → IsNewLane run p number (slice_index_or w.from p end)

-- ---- what lasts

-- the pipe is the same one of the same run, and knows the same plans
pub record IsSamePipe (old new : Pipe) : Type 0 where
  pub run : new.run ≡ old.run
  pub pipe : new.pipe ≡ old.pipe
  pub owners : new.owners ≡ old.owners
