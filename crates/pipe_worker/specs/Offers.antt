-- What a pipe does with a message that is offered to it, and when it has no room for it.
use Rattle.std.specs.Prelude.{◌≡◌, ⊤, ℕ, ℤ, ◌≤◌, ◌⊎◌, List, length, Option, IsSome}
use Rattle.pipe_parts.specs.declared.packet.Packet.{Packet as PacketHere}
use Rattle.egress_order.specs.OwnPackets.{IsAway}
use Rattle.run_laws.specs.Run.{round_of, home_of}
use Rattle.group_station.specs.Steps.{CanTake, after_taking}
use Rattle.packet_lines.specs.Lined.{lined_packet, home_count, with_lined}
use Rattle.pipe_stations.specs.Row.{with_station}
use Rattle.pipe_stations.specs.RowSteps.{IsTurn, IsAnnounced, IsFull}
use Rattle.pipe_messages.specs.declared.message.Message.{Message}
use Rattle.pipe_messages.specs.declared.message.Message.TheVariants.{Phantom, Packet, Cell, Home}
use Rattle.pipe_worker.specs.Pipe.{Pipe, station}

-- a phantom is of the arrival that its source announces next
abbrev pub IsNextOf : Pipe → ℕ → Message → Type 0
IsNextOf s from (Phantom t units) = IsTurn s.row from t
IsNextOf s from (Packet t g env by touched) = ⊤
IsNextOf s from (Cell g u round unit) = ⊤
IsNextOf s from (Home t env by touched) = ⊤

-- ---- no room

-- the plan of an arrival's round isn't known here
abbrev pub IsUnplanned : Pipe → ℕ → Type 0
IsUnplanned s t = round_of s.run t ≤ length s.owners.plans → ⊥

-- why there is no room for a packet: as many as the window of its home are here, one of its arrival is here, or its arrival
-- is an own one that isn't out
pub data IsCrowded (s : Pipe) (t : ℕ) : Type 0 where
  full : home_count s.packets (home_of s.run t) ≡ s.run.settings.window → IsCrowded s t
  here : IsSome (lined_packet s.packets t) → IsCrowded s t
  in_or_gone : home_of s.run t ≡ s.pipe → (IsAway s.door.exit t → ⊥) → IsCrowded s t

-- a message is held
abbrev pub IsHeld : Pipe → ℕ → Message → Type 0
IsHeld s from (Phantom t units) = IsUnplanned s t ⊎ IsFull s.row from t
IsHeld s from (Packet t g env by touched) = IsUnplanned s t ⊎ IsCrowded s t
IsHeld s from (Cell g u round unit) = CanTake (station s g) s.owners round u → ⊥
IsHeld s from (Home t env by touched) = IsCrowded s t

-- ---- taken in

-- a packet is here, with its environment and its entries
pub record IsTakenIn (old new : Pipe) (t g : ℕ) (p : PacketHere) (line : Option ℕ) : Type 0 where
  pub arrival : p.t ≡ t
  pub group : p.g ≡ g
  pub pipe : new ≡ record old { packets = with_lined old.packets p line }

-- the packet is made of these
pub record IsMadeOf (p : PacketHere) (env : List ℤ) (by touched : List ℕ) : Type 0 where
  pub slots : p.env ≡ env
  pub servers : p.by ≡ by
  pub arrays : p.touched ≡ touched

-- only the stations changed
abbrev pub IsOnlyRow : Pipe → Pipe → Type 0
IsOnlyRow old new = new ≡ record old { row = new.row }

-- a packet came
pub record IsPacketIn (old new : Pipe) (t g : ℕ) (env : List ℤ) (by touched : List ℕ) : Type 0 where
  pub packet : PacketHere
  pub line : Option ℕ
  pub made : IsMadeOf packet env by touched
  pub taken : IsTakenIn old new t g packet line

-- what a message does where it is taken
abbrev pub IsAccepted : Pipe → Pipe → ℕ → Message → Type 0
IsAccepted old new from (Phantom t units) = IsAnnounced old.row new.row from t × IsOnlyRow old new
IsAccepted old new from (Packet t g env by touched) = IsPacketIn old new t g env by touched
IsAccepted old new from (Cell g u round unit) = new ≡ record old { row = with_station old.row g (after_taking (station old g) unit) }
IsAccepted old new from (Home t env by touched) = IsPacketIn old new t (length old.run.code.groups) env by touched
