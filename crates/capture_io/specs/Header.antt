-- The fields of a packet, read from a record: Ethernet II (IEEE 802.3) with tags (IEEE 802.1Q and 802.1ad),
-- IPv4 (RFC 791), and the ports of TCP (RFC 9293) and UDP (RFC 768).
use Rattle.std.specs.Prelude.{◌==◌, ◌&&◌, ◌||◌, ℕ, ◌+◌, ◌*◌, ◌^◌, ◌%◌, ℤ, pos, ◌-ℤ◌, Bool, nat_le, if◌then◌else◌, List, [], ◌∷◌, length, drop, map, codes}
use Rattle.std.specs.Int.{int_rem_euclid}
use Rattle.std.specs.Str.{bytes_eq}
use Rattle.byteorder.specs.Endian.{big_number}
use Rattle.mp5_words.specs.Words.{word}
use Rattle.capture_io.specs.declared.source.Source.{Source}
use Rattle.capture_io.specs.declared.source.Source.TheVariants.{Arrival, OriginalLength, TypeOfService, TimeToLive, Protocol, SourceAddress, DestinationAddress, SourcePort, DestinationPort, Unfilled}
use Rattle.capture_io.specs.ClassicCapture.{Record}

-- the number in n bytes from a place on, most significant first; 0 where one of them isn't captured
abbrev pub number_at : ℕ → ℕ → List ℕ → ℕ
number_at n at bytes = if nat_le (at + n) (length bytes) then big_number n (drop at bytes) else 0

abbrev pub is_tag : ℕ → Bool
is_tag ether_type = ether_type == 0x8100 || ether_type == 0x88a8

-- a frame from its EtherType on, behind all tags: a tag has four bytes, two of its type and two of its own,
-- and a type stands behind it
unfoldable pub behind_tags : List ℕ → List ℕ
behind_tags (a ∷ b ∷ c ∷ d ∷ rest) = if is_tag (number_at 2 0 (a ∷ b ∷ c ∷ d ∷ rest)) then behind_tags rest else a ∷ b ∷ c ∷ d ∷ rest
behind_tags bytes = bytes

-- what stands behind an EtherType of IPv4, and nothing behind another
abbrev pub behind_type : List ℕ → List ℕ
behind_type bytes = if number_at 2 0 bytes == 0x0800 then drop 2 bytes else []

-- the captured bytes from the IPv4 header on: none where the frame has no such header; the first type, or tag,
-- stands at byte 12
abbrev pub ipv4 : List ℕ → List ℕ
ipv4 frame = behind_type (behind_tags (drop 12 frame))

-- the header's length in bytes: four times the low half of its first byte
abbrev pub header_len : List ℕ → ℕ
header_len ip = 4 * (number_at 1 0 ip % 16)

-- whether ports follow the header: TCP or UDP, the first fragment, a header of at least 20 bytes; where
-- byte 9 is captured, the fragment's bytes before it are
abbrev pub has_ports : List ℕ → Bool
has_ports ip =
    (number_at 1 9 ip == 6 || number_at 1 9 ip == 17) && (number_at 2 6 ip % 8192 == 0 && nat_le 20 (header_len ip))

-- the port that stands so many bytes behind the IPv4 header; 0 where there is none
abbrev pub port : ℕ → List ℕ → ℕ
port past ip = if has_ports ip then number_at 2 (header_len ip + past) ip else 0

-- how many microseconds after a start the record came, modulo 2^31
abbrev pub arrival : ℕ → Record → ℤ
arrival start r = int_rem_euclid (pos r.timestamp -ℤ pos start) (pos (2 ^ 31))

-- where the values of fields are read
abbrev pub filled : List Source
filled = Arrival ∷ OriginalLength ∷ TypeOfService ∷ TimeToLive ∷ Protocol ∷ SourceAddress ∷ DestinationAddress ∷ SourcePort ∷ DestinationPort ∷ []

-- the name of the field that is read there; no name where none is
abbrev pub name_of : Source → List ℕ
name_of Arrival = codes "arrival"
name_of OriginalLength = codes "len"
name_of TypeOfService = codes "tos"
name_of TimeToLive = codes "ttl"
name_of Protocol = codes "proto"
name_of SourceAddress = codes "saddr"
name_of DestinationAddress = codes "daddr"
name_of SourcePort = codes "sport"
name_of DestinationPort = codes "dport"
name_of Unfilled = []

-- the one among these places that has the name
abbrev pub source_in : List Source → List ℕ → Source
source_in [] name = Unfilled
source_in (s ∷ rest) name = if bytes_eq name (name_of s) then s else source_in rest name

-- where the value of a field of this name is read
abbrev pub source : List ℕ → Source
source name = source_in filled name

-- what is read there: the arrival, the original length of the frame, or from the IPv4 header on the type of service
-- (byte 1), the time to live (byte 8), the protocol (byte 9), the source address (bytes 12 to 15), the destination
-- address (bytes 16 to 19), and the source port and the destination port (the first two bytes and the next two
-- behind the header); each number is given as a word
abbrev pub value_in : Source → ℤ → ℕ → List ℕ → ℤ
value_in Arrival since original ip = since
value_in OriginalLength since original ip = word (pos original)
value_in TypeOfService since original ip = pos (number_at 1 1 ip)
value_in TimeToLive since original ip = pos (number_at 1 8 ip)
value_in Protocol since original ip = pos (number_at 1 9 ip)
value_in SourceAddress since original ip = word (pos (number_at 4 12 ip))
value_in DestinationAddress since original ip = word (pos (number_at 4 16 ip))
value_in SourcePort since original ip = pos (port 0 ip)
value_in DestinationPort since original ip = pos (port 2 ip)
value_in Unfilled since original ip = pos 0

-- the value that a record of a capture that starts at this timestamp has there
abbrev pub value : ℕ → Record → Source → ℤ
value start r s = value_in s (arrival start r) r.original (ipv4 r.frame)

-- the value of a field in a record of a capture that starts at this timestamp; 0 for a name that no record fills
abbrev pub field : ℕ → Record → List ℕ → ℤ
field start r name = value start r (source name)

-- the fields of a record, in order of declaration
abbrev pub header : List (List ℕ) → ℕ → Record → List ℤ
header names start r = map (field start r) names

-- the timestamp of the first record
abbrev pub start_of : List Record → ℕ
start_of [] = 0
start_of (r ∷ rs) = r.timestamp

-- the fields of each record
abbrev pub headers : List (List ℕ) → List Record → List (List ℤ)
headers names records = map (header names (start_of records)) records
