-- The packets that are at a pipe, and the lines in which some of them stand.
use Rattle.std.specs.Prelude.{◌≡◌, ℕ, ◌%◌, ◌<◌, ◌≤◌, ◌==◌, Bool, false, List, [], ◌∷◌, ◌++◌, length, drop, replicate, Option, Some, None, IfSome, IsSome, slice_index, slice_index_or, slice_set, count_by}
use Rattle.pipe_parts.specs.declared.packet.Packet.{Packet}

-- how many pipes there are, and how many packets of each home may be here; for each arrival its packet, where
-- it is here; and for each line the arrivals that stand in it, in order of coming
pub record Lined : Type 0 where
  pub pipes : ℕ
  pub window : ℕ
  pub packets : List (Option Packet)
  pub lines : List (List ℕ)

-- none is here
abbrev pub no_lines : ℕ → ℕ → ℕ → Lined
no_lines arrivals pipes window = record { pipes = pipes; window = window; packets = replicate arrivals None; lines = replicate pipes [] }

-- the packet of an arrival
abbrev pub lined_packet : Lined → ℕ → Option Packet
lined_packet p t = slice_index_or p.packets t None

-- the arrivals that stand in a line
abbrev pub line_of : Lined → ℕ → List ℕ
line_of p line = slice_index_or p.lines line []

-- the arrival that stands first in a line
abbrev pub first_of : Lined → ℕ → ℕ
first_of p line = slice_index (line_of p line) 0

-- whether there is a packet, and its arrival has this home
abbrev pub is_of_home : ℕ → ℕ → Option Packet → Bool
is_of_home pipes home None = false
is_of_home pipes home (Some packet) = packet.t % pipes == home

-- how many packets are here whose arrivals have this home
abbrev pub home_count : Lined → ℕ → ℕ
home_count p home = count_by (is_of_home p.pipes home) p.packets

-- the lines after an arrival came behind the others of a line, or into none
abbrev pub lined_up : List (List ℕ) → ℕ → Option ℕ → List (List ℕ)
lined_up lines t None = lines
lined_up lines t (Some line) = slice_set lines line (slice_index_or lines line [] ++ t ∷ [])

-- a packet more is here, and its arrival stands in a line or in none
abbrev pub with_lined : Lined → Packet → Option ℕ → Lined
with_lined p packet line = record { pipes = p.pipes; window = p.window; packets = slice_set p.packets packet.t (Some packet); lines = lined_up p.lines packet.t line }

-- the packet of an arrival is gone, and the lines are these
abbrev pub gone_from : Lined → ℕ → List (List ℕ) → Lined
gone_from p t lines = record { pipes = p.pipes; window = p.window; packets = slice_set p.packets t None; lines = lines }

-- the packet whose arrival stood first in a line is gone
abbrev pub without_first : Lined → ℕ → Lined
without_first p line = gone_from p (first_of p line) (slice_set p.lines line (drop 1 (line_of p line)))

-- the packet of an arrival that stood in no line is gone
abbrev pub without_waiting : Lined → ℕ → Lined
without_waiting p t = gone_from p t p.lines

-- the arrival stands in a line, with so many before it
pub record StandsAt (p : Lined) (line before t : ℕ) : Type 0 where
  pub within : before < length (line_of p line)
  pub number : slice_index (line_of p line) before ≡ t

-- the arrival stands in no line
abbrev pub StandsNowhere : Lined → ℕ → Type 0
StandsNowhere p t = (line before : ℕ) → StandsAt p line before t → ⊥

-- two places in the lines are one
pub record IsOnePlace (line before other behind : ℕ) : Type 0 where
  pub one_line : line ≡ other
  pub one_place : before ≡ behind

-- each packet is of its arrival; each arrival in a line has its packet here, and stands in one place only; and
-- of each home no more are here than the window
pub record AreLined (p : Lined) : Type 0 where
  pub some : 1 ≤ p.pipes
  pub pipes : p.pipes ≤ 8
  pub limit : p.window ≤ 1024
  pub lines : length p.lines ≡ p.pipes
  pub own : (t : ℕ) → IfSome (lined_packet p t) (λ packet. packet.t ≡ t)
  pub here : (line before t : ℕ) → StandsAt p line before t → IsSome (lined_packet p t)
  pub once : (line before other behind t : ℕ) → StandsAt p line before t → StandsAt p other behind t → IsOnePlace line before other behind
  pub few : (home : ℕ) → home < p.pipes → home_count p home ≤ p.window
