-- The answer of a run over compiled code is that of its source, and so is the run's mark.
use Rattle.std.proofs.Common.{◌≡◌, ◌∙◌, ℕ, ◌*◌, ◌<◌, ℤ, List, length, Option, Some, None, refl, sym, ap, subst, arith}
use Rattle.std.specs.Prelude.{All, filter, sum}
use Rattle.std.proofs.lemmas.List.{take_all}
use Rattle.mp5_words.specs.declared.settings.Settings.{Settings}
use Rattle.mp5_words.specs.Cells.{word_at}
use Rattle.domino_tree.specs.declared.program.Program.{Program}
use Rattle.domino_tree.specs.Sequential.{one}
use Rattle.code_forms.specs.Staged.{Staged, group_at}
use Rattle.code_forms.specs.StagedMeaning.{array_set}
use Rattle.code_forms.specs.OverHeaders.{start_units, units_over}
use Rattle.run_laws.specs.Run.{Run, run_of, place_of}
use Rattle.run_laws.specs.Trace.{touched_at as touched_on}
use Rattle.run_answer.specs.Cells.{all_cells}
use Rattle.run_answer.specs.Results.{ArePackets}
use Rattle.domino_compile.specs.Compiled.{Translation, IsCompiled}
use Rattle.domino_compile.specs.MeaningRun.{AreWide}
use Rattle.switch_net.specs.declared.answer.Answer.{Answer}
use Rattle.switch_net.specs.Answer.{moves_of, IsAnswer}
use Rattle.switch_net.specs.declared.fabric.Mark.{Mark}
use Rattle.switch_net.specs.Marks.{Runs, HasRun, mark_of, word_sum}
use Rattle.compiled_run.specs.SourceRun.{packet_words, touched_at, AreAccesses, IsSourceAnswer, source_mark}
use Rattle.compiled_run.proofs.RowLemmas.{rows_flat}
use Rattle.compiled_run.proofs.PacketLemmas.{one_count, one_wide}
use Rattle.compiled_run.proofs.CellLemmas.{run_cells}

module _ (p : Program) (c : Staged) (headers : List (List ℤ)) (settings : Settings) (is : IsCompiled p c) (wide : AreWide c headers) where
  -- the packets of a run are those of the source's sequential run
  run_packets : (packets : List ℤ) → ArePackets (run_of c headers settings) packets → packets ≡ packet_words p headers
  run_packets packets are =
      let count : length (one p headers).packets ≡ length headers = one_count p headers in
      rows_flat c.fields (one p headers).packets packets (λ t less. one_wide p headers c.fields wide t (omega (arith, less, count))) (are.size ∙ ap (λ n. n * c.fields) (sym count)) (λ t f less within.
      let early : t < length headers = omega (arith, less, count) in
      are.words t f early within ∙ ap (λ l. word_at l f) ((is.runs headers wide).packets t early))

  -- and so is what an arrival touches at a group where it has such a place
  run_touched : (t g : ℕ) → t < length headers → (o : Option ℕ) → touched_on (run_of c headers settings) t g o ≡ touched_at p c headers t g o
  run_touched t g early None = refl
  run_touched t g early (Some u) = λ i. array_set (filter (λ a. (is.runs headers wide).touched t a early i) (group_at c g).arrays)

  -- so each access is the source's
  source_accesses : (a : Answer) → IsAnswer (run_of c headers settings) a → AreAccesses p c headers settings (moves_of a.plans.items) a.by.items a.touched.items
  source_accesses a answers = record {
    by_size = answers.served.by_size;
    touched_size = answers.served.touched_size;
    served = answers.served.served;
    arrays = λ t g early low. answers.served.arrays t g early low ∙ run_touched t g early (place_of (run_of c headers settings) t g);
  }

  -- and a run answers what that ends with
  source_answer : (a : Answer) → IsAnswer (run_of c headers settings) a → IsSourceAnswer p c headers settings a
  source_answer a answers = record {
    count = answers.count;
    packets = run_packets a.packets.items answers.packets;
    cells = answers.cells
        ∙ ap (λ hs. all_cells c (units_over c (start_units c) hs)) (take_all (length headers) headers (omega arith))
        ∙ run_cells p c headers is wide;
    plans = answers.plans;
    accesses = source_accesses a answers;
  }

  -- and has the mark of that answer
  source_run : (a : Answer) (seed : Option ℕ) → IsAnswer (run_of c headers settings) a → mark_of (run_of c headers settings) seed a ≡ source_mark p c headers settings seed
  source_run a seed answers =
      let of_source : IsSourceAnswer p c headers settings a = source_answer a answers in
      λ i. record {
        seed = seed;
        settings = settings;
        arrivals = of_source.count i;
        packets = word_sum (of_source.packets i);
        cells = word_sum (of_source.cells i);
        served = sum (answers.counts i);
      }

-- ---- of a program and its code as they are seen

module _ (v t : Translation) (headers : List (List ℤ)) (settings : Settings) (run : Run) (a : Answer) (viewed : v ≡ t) (made : IsCompiled v.program v.code) (wide : All (λ header. length header ≡ length t.program.packet.fields) headers)
    (of_code : run ≡ run_of v.code headers settings) (answers : IsAnswer run a) where
  is : IsCompiled t.program t.code
  is = subst (λ (s : Translation). IsCompiled s.program s.code) viewed made

  as_wide : AreWide t.code headers
  as_wide k d less = wide k d less ∙ sym is.fields

  same : run ≡ run_of t.code headers settings
  same = of_code ∙ ap (λ (s : Translation). run_of s.code headers settings) viewed

  its_answer : IsAnswer (run_of t.code headers settings) a
  its_answer = subst (λ (r : Run). IsAnswer r a) same answers

  pub compiled_answer : IsSourceAnswer t.program t.code headers settings a
  compiled_answer = source_answer t.program t.code headers settings is as_wide a its_answer

  pub compiled_mark : (seed given : Option ℕ) (old new : Runs) → given ≡ seed → HasRun (mark_of run given a) old new → HasRun (source_mark t.program t.code headers settings seed) old new
  compiled_mark seed given old new kept has =
      subst (λ (m : Mark). HasRun m old new) ((λ i. mark_of (same i) (kept i) a) ∙ source_run t.program t.code headers settings is as_wide a seed its_answer) has
