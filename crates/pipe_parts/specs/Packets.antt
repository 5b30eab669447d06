-- The packets that are at a pipe.
use Rattle.std.specs.Prelude.{◌≡◌, ℕ, ◌≤◌, List, replicate, Option, None, is_some, IfSome, slice_index_or, slice_set, count_by}
use Rattle.pipe_parts.specs.declared.packet.Packet.{Packet}

-- how many may be here, and for each arrival its packet, where it is here
pub record Packets : Type 0 where
  pub room : ℕ
  pub packets : List (Option Packet)

-- none is here
abbrev pub no_packets : ℕ → ℕ → Packets
no_packets arrivals room = record { room = room; packets = replicate arrivals None }

-- the packet of an arrival
abbrev pub packet_of : Packets → ℕ → Option Packet
packet_of p t = slice_index_or p.packets t None

-- another packet of an arrival is here, or none
abbrev pub with_packet : Packets → ℕ → Option Packet → Packets
with_packet p t packet = record { room = p.room; packets = slice_set p.packets t packet }

-- how many are here
abbrev pub how_many : Packets → ℕ
how_many p = count_by is_some p.packets

-- each is of its arrival, and no more are here than there is room for
pub record ArePackets (p : Packets) : Type 0 where
  pub own : (t : ℕ) → IfSome (packet_of p t) (λ packet. packet.t ≡ t)
  pub few : how_many p ≤ p.room
