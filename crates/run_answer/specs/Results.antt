-- What a run ends with: the packets, the accesses and the counts.
use Rattle.std.specs.Prelude.{◌≡◌, ℕ, ◌+◌, ◌*◌, ◌<◌, ℤ, pos, List, length, slice_index, slice_index_or, flat_map}
use Rattle.mp5_words.specs.Cells.{word_at}
use Rattle.code_forms.specs.StagedMeaning.{last_words}
use Rattle.run_laws.specs.Run.{Run, arrivals, values_of}
use Rattle.run_laws.specs.LawfulPlans.{loads_below}
use Rattle.packet_steps.specs.Packet.{HasEntry}

-- the words of all packets in order of arrival, each as the code leaves its fields
pub record ArePackets (run : Run) (packets : List ℤ) : Type 0 where
  pub size : length packets ≡ arrivals run * run.code.fields
  pub words : (t f : ℕ) → t < arrivals run → f < run.code.fields
      → slice_index_or packets (t * run.code.fields + f) (pos 0) ≡ word_at (last_words run.code (values_of run t)) f

-- for each arrival and group, by arrival and then by group, which pipe served it there, and what it touched
pub record AreEntries (run : Run) (by touched : List ℕ) : Type 0 where
  pub served : length by ≡ arrivals run * length run.code.groups
  pub arrays : length touched ≡ arrivals run * length run.code.groups
  pub each : (t g : ℕ) → t < arrivals run → g < length run.code.groups
      → HasEntry run t g (slice_index by (t * length run.code.groups + g)) (slice_index touched (t * length run.code.groups + g))

-- the same of all arrivals before an arrival, and of that one at the groups before a group
pub record AreEntriesTo (run : Run) (t g : ℕ) (by touched : List ℕ) : Type 0 where
  pub served : length by ≡ t * length run.code.groups + g
  pub arrays : length touched ≡ t * length run.code.groups + g
  pub each : (u h : ℕ) → h < length run.code.groups → u * length run.code.groups + h < t * length run.code.groups + g
      → HasEntry run u h (slice_index by (u * length run.code.groups + h)) (slice_index touched (u * length run.code.groups + h))

-- how many places each unit has, by group and unit
abbrev pub place_counts : Run → List ℕ
place_counts run = flat_map (λ row. row) (loads_below run (arrivals run))
