-- What a run over compiled code answers: what the source's sequential run ends with; and the mark of that run.
use Rattle.std.specs.Prelude.{◌≡◌, ℕ, ◌+◌, ◌*◌, ◌<◌, ℤ, false, List, [], length, filter, flat_map, sum, slice_index, Option, Some, None}
use Rattle.std.specs.List.{slice_index_or}
use Rattle.mp5_words.specs.declared.settings.Settings.{Settings}
use Rattle.domino_tree.specs.declared.program.Program.{Program}
use Rattle.domino_tree.specs.Sequential.{one}
use Rattle.code_forms.specs.Staged.{Staged, group_at}
use Rattle.code_forms.specs.StagedMeaning.{array_set}
use Rattle.shard_rounds.specs.declared.plan.Move.{Move}
use Rattle.run_laws.specs.Run.{run_of, place_of}
use Rattle.run_laws.specs.LawfulPlans.{AreAllPlans}
use Rattle.run_laws.specs.Trace.{served_by}
use Rattle.run_answer.specs.Results.{place_counts}
use Rattle.switch_net.specs.declared.answer.Answer.{Answer}
use Rattle.switch_net.specs.Answer.{moves_of}
use Rattle.switch_net.specs.declared.fabric.Mark.{Mark}
use Rattle.switch_net.specs.Marks.{word_sum}

-- the words of all packets at the end of the sequential run, in order of arrival
abbrev pub packet_words : Program → List (List ℤ) → List ℤ
packet_words p headers = flat_map (λ packet. packet) (one p headers).packets

-- the words of the cells of all arrays at its end, in order of declaration
abbrev pub cell_words : Program → List (List ℤ) → List ℤ
cell_words p headers = flat_map (λ cells. cells) (one p headers).cells

-- the arrays of a group that an arrival touches in the sequential run, as a set
abbrev pub source_touched : Program → Staged → List (List ℤ) → ℕ → ℕ → ℕ
source_touched p c headers t g = array_set (filter (λ a. slice_index_or (slice_index_or (one p headers).touched t []) a false) (group_at c g).arrays)

-- the same, where the arrival has a place there; else none
abbrev pub touched_at : Program → Staged → List (List ℤ) → ℕ → ℕ → Option ℕ → ℕ
touched_at p c headers t g None = 0
touched_at p c headers t g (Some u) = source_touched p c headers t g

-- each entry of an answer tells, by arrival and then by group, the pipe that served it under these plans (255 without a
-- place) and what the source touches
pub record AreAccesses (p : Program) (c : Staged) (headers : List (List ℤ)) (settings : Settings) (plans : List (List Move)) (by touched : List ℕ) : Type 0 where
  pub by_size : length by ≡ length headers * length c.groups
  pub touched_size : length touched ≡ length headers * length c.groups
  pub served : (t g : ℕ) → t < length headers → g < length c.groups
      → slice_index by (t * length c.groups + g) ≡ served_by (run_of c headers settings) plans t g
  pub arrays : (t g : ℕ) → t < length headers → g < length c.groups
      → slice_index touched (t * length c.groups + g) ≡ touched_at p c headers t g (place_of (run_of c headers settings) t g)

-- the answer is that of the source's sequential run on the headers, with the lawful plans of the run over its code
pub record IsSourceAnswer (p : Program) (c : Staged) (headers : List (List ℤ)) (settings : Settings) (a : Answer) : Type 0 where
  pub count : a.arrivals ≡ length headers
  pub packets : a.packets.items ≡ packet_words p headers
  pub cells : a.cells.items ≡ cell_words p headers
  pub plans : AreAllPlans (run_of c headers settings) (moves_of a.plans.items)
  pub accesses : AreAccesses p c headers settings (moves_of a.plans.items) a.by.items a.touched.items

-- the mark of a run of the code with that answer, and with the seed of its order, where it has one
abbrev pub source_mark : Program → Staged → List (List ℤ) → Settings → Option ℕ → Mark
source_mark p c headers settings seed = record {
  seed = seed;
  settings = settings;
  arrivals = length headers;
  packets = word_sum (packet_words p headers);
  cells = word_sum (cell_words p headers);
  served = sum (place_counts (run_of c headers settings));
}
