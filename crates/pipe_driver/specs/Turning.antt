-- The parts of a turn: what comes to hand, and what each part leaves as it was.
use Rattle.std.specs.Prelude.{◌≡◌, ◌≢◌, ℕ, ◌+◌, ◌<◌, List, ◌∷◌, length, slice_index, slice_index_or, drop, Option, Some, None}
use Rattle.pair_lane.specs.Lane.{after}
use Rattle.pipe_parts.specs.Waiting.{with_waiting}
use Rattle.pipe_messages.specs.declared.message.Message.{Message}
use Rattle.pipe_messages.specs.Messages.{IsMessage, Fits, phantoms_in}
use Rattle.pipe_worker.specs.Pipe.{Pipe, waiting, station}
use Rattle.pipe_worker.specs.Laws.{IsPipe}
use Rattle.switch_worker.specs.Worker.{LaneEnd}
use Rattle.pipe_driver.specs.Driver.{IsSamePipe, HasQueues, IsSender, IsReceiver}

-- ---- messages that come to hand

-- the message was held, or it was received, where none was held
pub data IsFromLane (old new : LaneEnd) (m : Message) : Option Message → Type 0 where
  was_held : new ≡ old → IsFromLane old new m (Some m)
  was_received : new ≡ after old m → Fits old.key old.items m → IsFromLane old new m None

-- the first message for a pipe, if there is one, was taken out
pub record IsTakenOut (old new : Pipe) (to : ℕ) : Type 0 where
  pub laws : IsPipe old
  pub rest : new ≡ record old { outbox = with_waiting old.outbox to (drop 1 (waiting old to)) }

-- the message was unsent, or it waited first, where none was unsent
pub data IsForLane (old new : Pipe) (to : ℕ) (m : Message) : Option Message → Type 0 where
  was_unsent : new ≡ old → IsForLane old new to m (Some m)
  was_waiting : IsTakenOut old new to → waiting old to ≡ m ∷ waiting new to → IsMessage old.run old.pipe to m → IsForLane old new to m None

-- ---- what stays

-- at each group so many of a source were announced as before
abbrev pub FloorsStay : Pipe → Pipe → ℕ → Type 0
FloorsStay old new p = (g : ℕ) → g < length new.row.stations → slice_index (station new g).queue.floors p ≡ slice_index (station old g).queue.floors p

-- where a pipe hears one, it stays the same with the same messages, and other sources have their floors
pub record Hears (from : ℕ) (old new : Pipe) : Type 0 where
  pub same : IsSamePipe old new
  pub outbox : new.outbox ≡ old.outbox
  pub entered : new.door.exit.entered ≡ old.door.exit.entered
  pub count : length new.row.stations ≡ length old.row.stations
  pub floors : (p : ℕ) → p ≢ from → FloorsStay old new p

-- where it hears all, the floors alone change
pub record HearsAll (old new : Pipe) : Type 0 where
  pub same : IsSamePipe old new
  pub outbox : new.outbox ≡ old.outbox
  pub entered : new.door.exit.entered ≡ old.door.exit.entered

-- where it tells one, only messages for that one change
pub record Tells (to : ℕ) (old new : Pipe) : Type 0 where
  pub same : IsSamePipe old new
  pub row : new.row ≡ old.row
  pub door : new.door ≡ old.door
  pub others : (q : ℕ) → q ≢ to → waiting new q ≡ waiting old q

-- where it tells all, messages alone change
pub record TellsAll (old new : Pipe) : Type 0 where
  pub same : IsSamePipe old new
  pub row : new.row ≡ old.row

-- where it does an own event, all floors stay, and for each pipe as many phantoms come to wait as arrivals enter
pub record Turns (old new : Pipe) : Type 0 where
  pub same : IsSamePipe old new
  pub count : length new.row.stations ≡ length old.row.stations
  pub floors : (p : ℕ) → FloorsStay old new p
  pub told : (q : ℕ) → q < old.run.settings.pipelines → length (phantoms_in (waiting new q)) + old.door.exit.entered ≡ length (phantoms_in (waiting old q)) + new.door.exit.entered

-- ---- all lanes

-- all lanes to the pipes are as they should be
pub record AreSenders (s : Pipe) (to : List LaneEnd) (unsent : List (Option Message)) : Type 0 where
  pub lanes : length to ≡ s.run.settings.pipelines
  pub hands : length unsent ≡ s.run.settings.pipelines
  pub each : (q : ℕ) (end : LaneEnd) → q < s.run.settings.pipelines → IsSender s q (slice_index_or to q end) (slice_index_or unsent q None)

-- all lanes from the pipes are, and the stations are those of the run
pub record AreReceivers (s : Pipe) (from : List LaneEnd) (held : List (Option Message)) : Type 0 where
  pub lanes : length from ≡ s.run.settings.pipelines
  pub hands : length held ≡ s.run.settings.pipelines
  pub queues : HasQueues s
  pub each : (p : ℕ) (end : LaneEnd) → p < s.run.settings.pipelines → IsReceiver s p (slice_index_or from p end) (slice_index_or held p None)
