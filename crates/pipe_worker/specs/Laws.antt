-- What is true of each pipe of a run, at every moment.
use Rattle.std.specs.Prelude.{◌≡◌, ℕ, ◌+◌, ◌/◌, ◌<◌, ◌≤◌, true, List, length, slice_index, All, Some}
use Rattle.mp5_words.specs.Cells.{word_at}
use Rattle.pipe_parts.specs.declared.packet.Packet.{Packet as PacketHere}
use Rattle.pipe_parts.specs.EntryList.{entry_of}
use Rattle.egress_order.specs.OwnPackets.{own_arrival, is_home, word_of, IsAway}
use Rattle.code_forms.specs.Staged.{slot_count}
use Rattle.code_forms.specs.StagedMeaning.{last_words}
use Rattle.run_laws.specs.Run.{arrivals, round_of, last_round, home_of, values_of}
use Rattle.packet_lines.specs.Lined.{lined_packet}
use Rattle.home_door.specs.Door.{Door}
use Rattle.packet_steps.specs.declared.heading.Heading.{Heading}
use Rattle.packet_steps.specs.Packet.{HasEntry, IsPacket}
use Rattle.packet_steps.specs.Heading.{IsHeading}
use Rattle.pipe_stations.specs.RowSteps.{AreRowOwners}
use Rattle.pipe_messages.specs.Messages.{IsMessage, phantoms_in, own_arrivals}
use Rattle.pipe_worker.specs.Pipe.{Pipe, waiting, outbox_room, line_for, StandsIn}

-- the door is that of the pipe
pub record IsDoorOf (s : Pipe) (d : Door) : Type 0 where
  pub pipe : d.exit.pipe ≡ s.pipe
  pub pipelines : d.exit.pipelines ≡ s.run.settings.pipelines
  pub arrivals : d.exit.arrivals ≡ arrivals s.run
  pub window : d.exit.window ≡ s.run.settings.window
  pub fields : d.exit.fields ≡ s.run.code.fields
  pub slots : d.free.slots ≡ slot_count s.run.code

-- its parts are those of one pipe of the run, and the plans that it knows are those of the run
pub record IsWhole (s : Pipe) : Type 0 where
  pub pipe : s.pipe < s.run.settings.pipelines
  pub wide : All (λ header. length header ≡ s.run.code.fields) s.run.headers
  pub run : s.row.run ≡ s.run
  pub number : s.row.pipe ≡ s.pipe
  pub owners : AreRowOwners s.row s.owners
  pub plans : s.owners.room ≡ last_round s.run
  pub door : IsDoorOf s s.door
  pub pipes : s.packets.pipes ≡ s.run.settings.pipelines
  pub window : s.packets.window ≡ s.run.settings.window
  pub packets : length s.packets.packets ≡ arrivals s.run
  pub boxes : length s.outbox.lines ≡ s.run.settings.pipelines
  pub room : s.outbox.room ≡ outbox_room s.run

-- a packet that is here keeps its law, the plan of its round is known, an own one is out, and it stands in the line of its
-- heading
pub record IsHere (s : Pipe) (p : PacketHere) : Type 0 where
  pub packet : IsPacket s.run p
  pub known : round_of s.run p.t ≤ length s.owners.plans
  pub out : home_of s.run p.t ≡ s.pipe → IsAway s.door.exit p.t
  pub heading : Heading
  pub next : IsHeading s.run s.pipe p heading
  pub line : StandsIn s.packets p.t (line_for s.pipe heading)

abbrev pub HasPackets : Pipe → Type 0
HasPackets s = (t : ℕ) (p : PacketHere) → lined_packet s.packets t ≡ Some p → IsHere s p

-- an own arrival that is home left the last values of its fields, and what was done to it at each group
pub record CameHome (s : Pipe) (t : ℕ) : Type 0 where
  pub fields : (f : ℕ) → f < s.run.code.fields → word_of s.door.exit t f ≡ word_at (last_words s.run.code (values_of s.run t)) f
  pub entries : (g : ℕ) → g < length s.run.code.groups → let e = entry_of s.door.entries (t / s.run.settings.pipelines) in
      HasEntry s.run t g (slice_index e.by g) (slice_index e.touched g)

-- what is known of the own arrivals: the plan of each that entered, and what each that is home left
pub record HasArrivals (s : Pipe) : Type 0 where
  pub known : (k : ℕ) → k < s.door.exit.entered → round_of s.run (own_arrival s.door.exit k) ≤ length s.owners.plans
  pub home : (t : ℕ) → t < arrivals s.run → home_of s.run t ≡ s.pipe → is_home s.door.exit (t / s.run.settings.pipelines) ≡ true → CameHome s t

-- the last own arrivals that entered, in order
pub record AreLatest (s : Pipe) (ts : List ℕ) : Type 0 where
  pub from : ℕ
  pub all : from + length ts ≡ s.door.exit.entered
  pub own : ts ≡ own_arrivals s.run s.pipe from (length ts)

-- each message that waits keeps its law, and the phantoms that wait for a pipe are those of the last arrivals that entered
pub record HasMessages (s : Pipe) (q : ℕ) : Type 0 where
  pub laws : All (IsMessage s.run s.pipe q) (waiting s q)
  pub phantoms : AreLatest s (phantoms_in (waiting s q))

-- what is true of each pipe
pub record IsPipe (s : Pipe) : Type 0 where
  pub whole : IsWhole s
  pub packets : HasPackets s
  pub arrivals : HasArrivals s
  pub messages : (q : ℕ) → q < s.run.settings.pipelines → HasMessages s q
