-- Which sources are in the packet, and the words of a capture's packets.
use Rattle.std.specs.Prelude.{ℕ, ℤ, Bool, true, false, List, map}
use Rattle.std.specs.List.{flat_map}
use Rattle.capture_io.specs.declared.source.Source.{Source}
use Rattle.capture_io.specs.declared.source.Source.TheVariants.{Arrival, OriginalLength, Unfilled}
use Rattle.capture_io.specs.ClassicCapture.{Record}
use Rattle.capture_io.specs.Header.{value}

-- whether the value is read from the IPv4 header and what follows it
abbrev pub is_in_packet : Source → Bool
is_in_packet Arrival = false
is_in_packet OriginalLength = false
is_in_packet Unfilled = false
is_in_packet s = true

-- the fields of a record
abbrev pub fields : List Source → ℕ → Record → List ℤ
fields sources start r = map (value start r) sources

-- the fields of each record, one record's after another's
abbrev pub words : List Source → ℕ → List Record → List ℤ
words sources start records = flat_map (fields sources start) records
