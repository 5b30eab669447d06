-- The own events of a pipe: when each is ready, and what it changes.
use Rattle.std.specs.Prelude.{◌≡◌, ◌≢◌, ℕ, ◌+◌, ◌/◌, ◌<◌, ◌≤◌, ◌==◌, if◌then◌else◌, length, slice_set, Option, Some, None, IfSome}
use Rattle.code_forms.specs.declared.unit.Unit.{Unit as PlacedUnit}
use Rattle.code_forms.specs.StagedMeaning.{last_words}
use Rattle.pipe_parts.specs.declared.packet.Packet.{Packet as PacketHere}
use Rattle.pipe_parts.specs.FreeEnvs.{with_free}
use Rattle.place_queue.specs.declared.place.Place.{Place}
use Rattle.egress_order.specs.OwnPackets.{own_arrival, left_count, came_home}
use Rattle.run_laws.specs.Run.{arrivals, round_of, values_of}
use Rattle.group_station.specs.Steps.{IsReady, IsRoundDone, after_serving, after_leaving, leaving, departing, next_moves}
use Rattle.packet_lines.specs.Lined.{lined_packet, line_of, with_lined, without_first, without_waiting}
use Rattle.packet_steps.specs.declared.heading.Heading.{Heading}
use Rattle.packet_steps.specs.declared.heading.Heading.TheVariants.{Skip, Pass, GoHome, TakeHome}
use Rattle.packet_steps.specs.Heading.{IsHeading}
use Rattle.pipe_stations.specs.Row.{with_station}
use Rattle.pipe_messages.specs.declared.message.Message.{Message}
use Rattle.pipe_messages.specs.declared.message.Message.TheVariants.{Phantom, Packet, Cell, Home}
use Rattle.pipe_worker.specs.Pipe.{Pipe, waiting, station, outbox_room, line_for, told, told_all}

-- fewer messages wait for a pipe than may
abbrev pub HasRoomFor : Pipe → ℕ → Type 0
HasRoomFor s q = length (waiting s q) < outbox_room s.run

-- ---- ready

-- the own arrival that enters next
abbrev pub next_arrival : Pipe → ℕ
next_arrival s = own_arrival s.door.exit s.door.exit.entered

-- an own arrival is left to enter, fewer than the window are out, the plan of its round is known, and a phantom has room for
-- every pipe
pub record CanEnter (s : Pipe) : Type 0 where
  pub left : next_arrival s < arrivals s.run
  pub window : s.door.exit.entered < left_count s.door.exit + s.run.settings.window
  pub known : round_of s.run (next_arrival s) ≤ length s.owners.plans
  pub room : (q : ℕ) → q < s.run.settings.pipelines → HasRoomFor s q

-- a packet that is here and isn't served here has room for its message, where it goes to another pipe
pub record CanStep (s : Pipe) (p : PacketHere) (heading : Heading) (line : ℕ) : Type 0 where
  pub here : lined_packet s.packets p.t ≡ Some p
  pub next : IsHeading s.run s.pipe p heading
  pub stands : line_for s.pipe heading ≡ Some line
  pub room : line ≢ s.pipe → HasRoomFor s line

-- a packet stands first in another pipe's line, and its message has room
pub record CanSend (s : Pipe) (to : ℕ) : Type 0 where
  pub there : to < s.run.settings.pipelines
  pub other : to ≢ s.pipe
  pub some : 0 < length (line_of s.packets to)
  pub room : HasRoomFor s to

-- the next place of a group is ready, and its packet is here before that group
pub record CanServe (s : Pipe) (g : ℕ) (place : Place) (p : PacketHere) : Type 0 where
  pub there : g < length s.run.code.groups
  pub ready : IsReady (station s g) place
  pub here : lined_packet s.packets place.t ≡ Some p
  pub group : p.g ≡ g

-- the unit that leaves a group with its taker, if there is one
abbrev pub leaver : Pipe → ℕ → Option (ℕ × PlacedUnit)
leaver s g = departing (station s g) (leaving (station s g) (next_moves (station s g) s.owners))

-- all of the present round is done at a group, the next plan is known, and the unit that leaves has room
pub record CanLeave (s : Pipe) (g : ℕ) : Type 0 where
  pub there : g < length s.run.code.groups
  pub next : (station s g).round < length s.owners.plans
  pub done : IsRoundDone (station s g)
  pub room : IfSome (leaver s g) (λ gone. HasRoomFor s gone.0)

-- some own event is ready
pub data IsEventReady (s : Pipe) : Type 0 where
  enter : CanEnter s → IsEventReady s
  step : (p : PacketHere) (heading : Heading) (line : ℕ) → CanStep s p heading line → IsEventReady s
  serve : (g : ℕ) (place : Place) (p : PacketHere) → CanServe s g place p → IsEventReady s
  leave : (g : ℕ) → CanLeave s g → IsEventReady s

-- ---- done

-- an own arrival entered: its packet is here before the first group, and its phantom waits for every pipe
pub record Entered (old new : Pipe) (p : PacketHere) (line : Option ℕ) : Type 0 where
  pub ready : CanEnter old
  pub arrival : p.t ≡ next_arrival old
  pub start : p.g ≡ 0
  pub exit : new.door.exit ≡ record (old.door.exit) { entered = old.door.exit.entered + 1 }
  pub entries : new.door.entries ≡ old.door.entries
  pub packets : new.packets ≡ with_lined old.packets p line
  pub outbox : new.outbox ≡ told_all old.outbox (Phantom p.t p.units)
  pub owners : new.owners ≡ old.owners
  pub row : new.row ≡ old.row

-- a packet took a step past a group: it was `p` and is `q`
pub record HasPassed (p q : PacketHere) : Type 0 where
  pub arrival : q.t ≡ p.t
  pub group : q.g ≡ p.g + 1
  pub units : q.units ≡ p.units

-- the first packet of this pipe's line skipped its group
pub record Skipped (old new : Pipe) (p q : PacketHere) (line : Option ℕ) : Type 0 where
  pub ready : CanStep old p Skip old.pipe
  pub passed : HasPassed p q
  pub pipe : new ≡ record old { packets = with_lined (without_first old.packets old.pipe) q line }

-- the message with which a packet goes to another pipe: to its place there, or home behind all groups
abbrev pub departing_as : ℕ → PacketHere → Message
departing_as groups p = if p.g == groups then Home p.t p.env p.by p.touched else Packet p.t p.g p.env p.by p.touched

-- the first packet of another pipe's line went to it
pub record PassedOn (old new : Pipe) (p : PacketHere) (to : ℕ) : Type 0 where
  pub ready : CanStep old p (Pass to) to
  pub pipe : new ≡ record old {
    packets = without_first old.packets to;
    outbox = told old.outbox to (Packet p.t p.g p.env p.by p.touched);
  }

-- or went home to it
pub record SentHome (old new : Pipe) (p : PacketHere) (to : ℕ) : Type 0 where
  pub ready : CanStep old p (GoHome to) to
  pub pipe : new ≡ record old {
    packets = without_first old.packets to;
    outbox = told old.outbox to (Home p.t p.env p.by p.touched);
  }

-- the first packet of this pipe's line came home
pub record TookHome (old new : Pipe) (p : PacketHere) : Type 0 where
  pub ready : CanStep old p TakeHome old.pipe
  pub pipe : new ≡ record old {
    packets = without_first old.packets old.pipe;
    door = record {
      exit = came_home old.door.exit p.t (last_words old.run.code (values_of old.run p.t));
      free = with_free old.door.free p.env;
      entries = slice_set old.door.entries (p.t / old.run.settings.pipelines) (record { by = p.by; touched = p.touched });
    };
  }

-- a packet was served at its group
pub record Served (old new : Pipe) (g : ℕ) (place : Place) (p q : PacketHere) (line : Option ℕ) : Type 0 where
  pub ready : CanServe old g place p
  pub passed : HasPassed p q
  pub pipe : new ≡ record old {
    packets = with_lined (without_waiting old.packets place.t) q line;
    row = with_station old.row g (after_serving (station old g) place);
  }

-- the messages that wait after a unit left a group for a round, if one did
abbrev pub told_of_unit : Pipe → ℕ → Option (ℕ × PlacedUnit) → Pipe
told_of_unit s g None = s
told_of_unit s g (Some gone) = record s { outbox = told s.outbox gone.0 (Cell g gone.1.number ((station s g).round + 1) gone.1) }

-- a round was left at a group, and the unit that left waits for its taker
pub record LeftRound (old new : Pipe) (g : ℕ) : Type 0 where
  pub ready : CanLeave old g
  pub pipe : new ≡ record (told_of_unit old g (leaver old g)) {
    row = with_station old.row g (after_leaving (station old g) (leaving (station old g) (next_moves (station old g) old.owners)));
  }

-- exactly one own event was done
pub data IsOneEvent (old new : Pipe) : Type 0 where
  enter : (p : PacketHere) (line : Option ℕ) → Entered old new p line → IsOneEvent old new
  skip : (p q : PacketHere) (line : Option ℕ) → Skipped old new p q line → IsOneEvent old new
  pass : (p : PacketHere) (to : ℕ) → PassedOn old new p to → IsOneEvent old new
  send : (p : PacketHere) (to : ℕ) → SentHome old new p to → IsOneEvent old new
  home : (p : PacketHere) → TookHome old new p → IsOneEvent old new
  serve : (g : ℕ) (place : Place) (p q : PacketHere) (line : Option ℕ) → Served old new g place p q line → IsOneEvent old new
  leave : (g : ℕ) → LeftRound old new g → IsOneEvent old new
