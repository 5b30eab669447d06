-- The law of a packet in a run: its places, how far its environment has come, and what was done to it so far.
use Rattle.std.specs.Prelude.{◌≡◌, ℕ, ◌<◌, ◌≤◌, ℤ, List, length, slice_index, Option, Some, None}
use Rattle.code_forms.specs.Staged.{Fits, group_start}
use Rattle.code_forms.specs.StagedMeaning.{place_code, HasUnits}
use Rattle.pipe_parts.specs.declared.packet.Packet.{Packet}
use Rattle.run_laws.specs.Run.{Run, arrivals, round_of, header_at, place_of, values_of}
use Rattle.run_laws.specs.LawfulPlans.{Owns}
use Rattle.run_laws.specs.Trace.{touched_there}

-- the pipe that serves an arrival at a group where this is its place: the owner of the unit in the arrival's round; 255
-- without a place
abbrev pub IsServer : Run → ℕ → ℕ → Option ℕ → ℕ → Type 0
IsServer run t g None by = by ≡ 255
IsServer run t g (Some u) by = Owns run (round_of run t) g u by

-- what was done to an arrival at a group: who served it there, and which arrays it touched
pub record HasEntry (run : Run) (t g by set : ℕ) : Type 0 where
  pub served : IsServer run t g (place_of run t g) by
  pub touched : set ≡ touched_there run t g

-- the places of an arrival as numbers: for each group 0 without a place, else 1 more than its unit, which is one of the
-- group; 0 behind all groups
pub record HasUnitNumbers (run : Run) (t : ℕ) (units : List ℕ) : Type 0 where
  pub few : length run.code.groups ≤ 16
  pub numbers : (g : ℕ) → g < length run.code.groups → slice_index units g ≡ place_code (place_of run t g)
  pub rest : (g : ℕ) → length run.code.groups ≤ g → g < 16 → slice_index units g ≡ 0
  pub known : HasUnits run.code (header_at run t)

-- an arrival stands right before a group, or behind all groups: its environment has what was run up to there, each group
-- that it has passed has its entry, and none from there on
pub record IsOnWay (run : Run) (t g : ℕ) (env : List ℤ) (by touched : List ℕ) : Type 0 where
  pub arrival : t < arrivals run
  pub group : g ≤ length run.code.groups
  pub fits : Fits run.code (values_of run t) (group_start run.code g) env
  pub passed : (k : ℕ) → k < g → HasEntry run t k (slice_index by k) (slice_index touched k)
  pub unserved : (k : ℕ) → g ≤ k → k < 16 → slice_index by k ≡ 255
  pub untouched : (k : ℕ) → g ≤ k → k < 16 → slice_index touched k ≡ 0

-- a packet of the run: its arrival is on its way, and has these places
pub record IsPacket (run : Run) (p : Packet) : Type 0 where
  pub way : IsOnWay run p.t p.g p.env p.by p.touched
  pub units : HasUnitNumbers run p.t p.units
