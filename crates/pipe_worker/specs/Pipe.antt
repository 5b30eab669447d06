-- A pipe of a run: what it is seen as, and what stands in its parts.
use Rattle.std.specs.Prelude.{◌≡◌, ℕ, ◌+◌, ◌*◌, List, [], ◌∷◌, ◌++◌, map, Option, Some, None}
use Rattle.pipe_parts.specs.Waiting.{Waiting, none_waits, waits_for, with_waiting}
use Rattle.shard_rounds.specs.Rounds.{OwnerTable, unmoved}
use Rattle.code_forms.specs.Staged.{slot_count}
use Rattle.run_laws.specs.Run.{Run, arrivals, last_round, unit_counts}
use Rattle.group_station.specs.Station.{Station}
use Rattle.pipe_parts.specs.declared.packet.Packet.{Packet as PacketHere}
use Rattle.packet_lines.specs.Lined.{Lined, no_lines, with_lined, StandsAt, StandsNowhere}
use Rattle.home_door.specs.Door.{Door, first_door}
use Rattle.packet_steps.specs.declared.heading.Heading.{Heading}
use Rattle.packet_steps.specs.declared.heading.Heading.TheVariants.{Serve, Skip, Pass, GoHome, TakeHome}
use Rattle.packet_steps.specs.Heading.{IsHeading}
use Rattle.pipe_stations.specs.Row.{Row, station_at, first_row}
use Rattle.pipe_messages.specs.declared.message.Message.{Message}

-- a run, and one of its pipes by its number: the known plans with the owners that they make, the own arrivals from their
-- entering to their coming home, the packets that are here, the station of each group, and the messages that wait
pub record Pipe : Type 0 where
  pub run : Run
  pub pipe : ℕ
  pub owners : OwnerTable
  pub door : Door
  pub packets : Lined
  pub row : Row
  pub outbox : Waiting Message

-- the messages that wait for a pipe
abbrev pub waiting : Pipe → ℕ → List Message
waiting s q = waits_for s.outbox q

-- the station of a group
abbrev pub station : Pipe → ℕ → Station
station s g = station_at s.row g

-- how many messages may wait for each pipe
abbrev pub outbox_room : Run → ℕ
outbox_room run = 2 * run.settings.window + 16

-- a pipe before anything happened
abbrev pub first_pipe : Run → ℕ → Pipe
first_pipe run pipe = record {
  run = run;
  pipe = pipe;
  owners = unmoved (unit_counts run) run.settings.pipelines (last_round run);
  door = first_door pipe run.settings.pipelines (arrivals run) run.settings.window run.code.fields (slot_count run.code);
  packets = no_lines (arrivals run) run.settings.pipelines run.settings.window;
  row = first_row run pipe;
  outbox = none_waits run.settings.pipelines (outbox_room run);
}

-- ---- lines

-- the line of a packet with this heading: one that is served here stands in none, one that skips its group or is home here
-- stands in this pipe's, and any other in that of the pipe that it goes to
abbrev pub line_for : ℕ → Heading → Option ℕ
line_for pipe Serve = None
line_for pipe Skip = Some pipe
line_for pipe (Pass q) = Some q
line_for pipe (GoHome q) = Some q
line_for pipe TakeHome = Some pipe

-- the arrival stands in this line, or in none
abbrev pub StandsIn : Lined → ℕ → Option ℕ → Type 0
StandsIn p t None = StandsNowhere p t
StandsIn p t (Some line) = (before : ℕ) × StandsAt p line before t

-- a packet more is here, and stands where its heading says
pub record IsStanding (run : Run) (pipe : ℕ) (old new : Lined) (p : PacketHere) : Type 0 where
  pub heading : Heading
  pub next : IsHeading run pipe p heading
  pub packets : new ≡ with_lined old p (line_for pipe heading)

-- ---- messages

-- a message more waits for a pipe
abbrev pub told : Waiting Message → ℕ → Message → Waiting Message
told outbox q m = with_waiting outbox q (waits_for outbox q ++ m ∷ [])

-- and for every pipe
abbrev pub told_all : Waiting Message → Message → Waiting Message
told_all outbox m = record outbox { lines = map (λ line. line ++ m ∷ []) outbox.lines }
