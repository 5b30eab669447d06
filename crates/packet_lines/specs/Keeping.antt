-- What lines keep beside what contracts see: room for all packets, and the counts of homes.
use Rattle.std.specs.Prelude.{◌≡◌, ℕ, ◌+◌, ◌-◌, ◌*◌, ◌<◌, List, [], ◌∷◌, ◌++◌, length, Option, Some, None, slice_index, slice_set}
use Rattle.pipe_parts.specs.Packets.{Packets}
use Rattle.pipe_parts.specs.Waiting.{Waiting, waits_for, with_waiting}
use Rattle.packet_lines.specs.Lined.{Lined, home_count, AreLined}

-- what contracts see
abbrev pub seen : ℕ → ℕ → Packets → Waiting ℕ → Lined
seen pipes window pool lines = record { pipes = pipes; window = window; packets = pool.packets; lines = lines.lines }

-- each home's packets are counted, and there is room for a window of each home, in the pool and in each line
pub record KeepsLines (pipes window : ℕ) (pool : Packets) (lines : Waiting ℕ) (homes : List ℕ) : Type 0 where
  pub laws : AreLined (seen pipes window pool lines)
  pub each : length homes ≡ pipes
  pub counted : (home : ℕ) → home < pipes → slice_index homes home ≡ home_count (seen pipes window pool lines) home
  pub pool_room : pool.room ≡ pipes * window
  pub line_room : lines.room ≡ pipes * window

-- the counts after one more packet of a home came
abbrev pub one_more : List ℕ → ℕ → List ℕ
one_more homes home = slice_set homes home (slice_index homes home + 1)

-- the counts after a packet of a home went
abbrev pub one_less : List ℕ → ℕ → List ℕ
one_less homes home = slice_set homes home (slice_index homes home - 1)

-- what waits after an item came behind the others of a line, or into none
abbrev pub stood : Waiting ℕ → ℕ → Option ℕ → Waiting ℕ
stood lines t None = lines
stood lines t (Some line) = with_waiting lines line (waits_for lines line ++ t ∷ [])
