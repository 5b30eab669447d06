-- The packets of a made capture, from the words of the PCG generator XSH RR 64/32.
use Rattle.std.specs.Prelude.{ℕ, zero, suc, ◌+◌, ◌*◌, ◌%◌, ℤ, pos, List, map}
use Rattle.std.specs.List.{range_with_len}
use Rattle.rand_pcg.specs.Lcg.{Lcg, advance, started, increment_of}
use Rattle.rand_pcg.specs.Pcg.{multiplier_64, pcg32}
use Rattle.capture_io.specs.declared.source.Source.{Source}
use Rattle.capture_io.specs.declared.source.Source.TheVariants.{Arrival, OriginalLength, TypeOfService, TimeToLive, Protocol, SourceAddress, DestinationAddress, SourcePort, DestinationPort, Unfilled}
use Rattle.capture_io.specs.Header.{source}
use Rattle.load_maker.specs.declared.packet.Draw.{Draw}
use Rattle.load_maker.specs.declared.packet.Packet.{Packet}

-- ---- words

-- word i from a generator on
unfoldable pub word : Lcg → ℕ → ℕ
word g i = (pcg32 (advance 64 multiplier_64 i g)).0

-- the generator before packet t: it starts at the seed, in sequence 54, and each packet takes four words
unfoldable pub before : ℕ → ℕ → Lcg
before seed t = advance 64 multiplier_64 (4 * t) (started 64 multiplier_64 seed (increment_of 64 54))

-- the four words from a generator on
abbrev pub draw : Lcg → Draw
draw g = record { sport = word g 0; dport = word g 1; wait = word g 2; len = word g 3 }

-- the words of packet t
abbrev pub drawn : ℕ → ℕ → Draw
drawn seed t = draw (before seed t)

-- ---- packets

-- when packet t comes: the first at 0, and each other up to 15 after the one before it
abbrev pub arrival : ℕ → ℕ → ℕ
arrival seed zero = 0
arrival seed (suc t) = arrival seed t + (drawn seed (suc t)).wait % 16

-- the packet of these words: one of 64 source ports, 4 destination ports and 1,400 lengths
abbrev pub packet_of : Draw → ℕ → Packet
packet_of d comes = record {
  sport = 1024 + d.sport % 64;
  dport = 80 + d.dport % 4;
  arrival = comes;
  len = 64 + d.len % 1400;
}

-- packet t
abbrev pub packet : ℕ → ℕ → Packet
packet seed t = packet_of (drawn seed t) (arrival seed t)

-- what the packet has where a field's value is read: UDP, a time to live of 64, and addresses that are
-- 10.0.0.0 and the port
abbrev pub value : Packet → Source → ℕ
value p Arrival = p.arrival
value p OriginalLength = p.len
value p TypeOfService = 0
value p TimeToLive = 64
value p Protocol = 17
value p SourceAddress = 167772160 + p.sport
value p DestinationAddress = 167772160 + p.dport
value p SourcePort = p.sport
value p DestinationPort = p.dport
value p Unfilled = 0

-- the values of packet t at these places
abbrev pub fields : ℕ → List Source → ℕ → List ℤ
fields seed sources t = map (λ s. pos (value (packet seed t) s)) sources

-- ---- captures

-- the fields of packet t with these names; 0 for a name that no packet fills
abbrev pub header : ℕ → List (List ℕ) → ℕ → List ℤ
header seed names t = map (λ name. pos (value (packet seed t) (source name))) names

-- the fields of each of n packets
abbrev pub made_headers : ℕ → ℕ → List (List ℕ) → List (List ℤ)
made_headers n seed names = map (header seed names) (range_with_len 0 n)
