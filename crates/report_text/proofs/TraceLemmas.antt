-- The entries of an answer that is the source's are its accesses, line by line.
use Rattle.std.proofs.Common.{◌≡◌, ◌∙◌, ◌<◌, ◌≤◌, ◌+◌, ◌-◌, ◌*◌, ◌/◌, ◌%◌, ◌==◌, if◌then◌else◌, ℕ, zero, suc, ℤ, List, [], ◌∷◌, ◌++◌, length, append_assoc, Option, Some, None, refl, sym, ap, arith}
use Rattle.std.proofs.Math.Nat.{div-mul-le_self}
use Rattle.std.proofs.lemmas.List.{append-nil}
use Rattle.std.proofs.lemmas.Nat.{le-div, div-mul-add, mod-mul-add}
use Rattle.mp5_words.specs.declared.settings.Settings.{Settings}
use Rattle.mp5_words.specs.Cells.{cells_at}
use Rattle.capture_io.specs.Rows.{rows}
use Rattle.domino_tree.specs.declared.program.Program.{Program}
use Rattle.domino_tree.specs.Sequential.{one}
use Rattle.domino_check.specs.NumberedMeaning.{indexing, place}
use Rattle.code_forms.specs.Staged.{Staged, group_at, first_array, unit_count}
use Rattle.shard_rounds.specs.declared.plan.Move.{Move}
use Rattle.shard_rounds.specs.Rounds.{owner}
use Rattle.run_laws.specs.Run.{Run, arrivals, round_of, last_round, place_of, run_of}
use Rattle.run_laws.specs.Trace.{served_at}
use Rattle.run_answer.proofs.CountsLemmas.{owner_below}
use Rattle.domino_compile.specs.Compiled.{IsCompiled}
use Rattle.domino_compile.specs.MeaningRun.{AreWide}
use Rattle.switch_net.specs.declared.answer.Answer.{Answer}
use Rattle.switch_net.specs.Answer.{moves_of}
use Rattle.compiled_run.specs.SourceRun.{touched_at, IsSourceAnswer}
use Rattle.report_text.specs.AnswerLines.{access_lines, answer_trace, entry_lines, lines_below, moves_lines, named_unit, packet_at, serve_line}
use Rattle.report_text.specs.SourceTrace.{place_serves, group_serves, arrival_serves, trace_lines}
use Rattle.report_text.proofs.EndLemmas.{packets-told}
use Rattle.report_text.proofs.EntryLemmas.{one-access}
use Rattle.report_text.proofs.ReportLemmas.{row-at}

-- ---- lines for each number

-- they are the same where each number has the same
below-same : (f h : ℕ → List (List ℕ)) (n : ℕ) → ((e : ℕ) → e < n → f e ≡ h e) → lines_below f n ≡ lines_below h n
below-same f h zero same = refl
below-same f h (suc n) same =
    let before = below-same f h n (λ e less. same e (omega (arith, less))) in
    let here = same n (omega arith) in
    λ i. before i ++ here i

-- those of some numbers, and of the next ones
below-more : (f : ℕ → List (List ℕ)) (m n : ℕ) → lines_below f (m + n) ≡ lines_below f m ++ lines_below (λ e. f (m + e)) n
below-more f m zero =
    let none : m + 0 ≡ m = omega arith in
    ap (lines_below f) none ∙ sym (append-nil (lines_below f m))
below-more f m (suc n) =
    let next : m + suc n ≡ suc (m + n) = omega arith in
    ap (lines_below f) next
    ∙ ap (λ l. l ++ f (m + n)) (below-more f m n)
    ∙ append_assoc (lines_below f m) (lines_below (λ e. f (m + e)) n) (f (m + n))

-- so they can be told by rows of one width
below-rows : (f : ℕ → List (List ℕ)) (n width : ℕ) → lines_below f (n * width) ≡ lines_below (λ t. lines_below (λ g. f (t * width + g)) width) n
below-rows f zero width =
    let none : 0 * width ≡ 0 = omega arith in
    ap (lines_below f) none
below-rows f (suc n) width =
    let next : suc n * width ≡ n * width + width = omega arith in
    ap (lines_below f) next
    ∙ below-more f (n * width) width
    ∙ ap (λ l. l ++ lines_below (λ g. f (n * width + g)) width) (below-rows f n width)

-- ---- accesses

-- the round of an arrival is at most the last
round-within : (run : Run) (t : ℕ) → t < arrivals run → round_of run t ≤ last_round run
round-within run t early =
    let some = run.settings.some_round in
    le-div (round_of run t) (arrivals run - 1) run.settings.round (omega arith) (let whole = div-mul-le_self t run.settings.round in omega arith)

module _ (p : Program) (c : Staged) (headers : List (List ℤ)) (settings : Settings) (is : IsCompiled p c) (wide : AreWide c headers) (a : Answer) (source : IsSourceAnswer p c headers settings a)
    (named : (t g u : ℕ) → t < length headers → g < length c.groups → place_of (run_of c headers settings) t g ≡ Some u
    → (if unit_count c (group_at c g) == 1 then 0 else place (indexing p) (first_array (group_at c g)) (cells_at (one p headers).packets t)) ≡ u) where
  abbrev run : Run
  run = run_of c headers settings

  abbrev plans : List (List Move)
  plans = moves_of a.plans.items

  abbrev packet : ℕ → List ℤ
  packet t = cells_at (one p headers).packets t

  -- who serves is a pipe
  is-pipe : (t g u : ℕ) → t < length headers → owner settings.pipelines plans (round_of run t) g u ≡ 255 → ⊥
  is-pipe t g u early other =
      let all = source.plans.all in
      let within = round-within run t early in
      let low = owner_below run plans g u (round_of run t) source.plans.lawful (omega (arith, all, within)) in
      let few = settings.most_pipelines in
      omega (arith, low, few, other)

  -- the packet that an entry names its unit by
  packet-is : (t : ℕ) → t < length headers → packet_at (length p.packet.fields) a.packets.items t ≡ packet t
  packet-is t early =
      sym (row-at (length headers) (length p.packet.fields) a.packets.items t early)
      ∙ ap (λ words. cells_at (rows (length headers) (length p.packet.fields) words) t) source.packets
      ∙ ap (λ packets. cells_at packets t) (packets-told p headers (λ k d less. wide k d less ∙ is.fields))

  -- an access is told as the source's, and none where there is no place
  access-is : (t g : ℕ) → t < length headers → g < length c.groups → (o : Option ℕ) → place_of run t g ≡ o
      → access_lines t g (named_unit p c g (packet t)) (served_at run plans t g o) (touched_at p c headers t g o) ≡ place_serves p c headers settings plans t g o
  access-is t g early less None placed = refl
  access-is t g early less (Some u) placed =
      one-access t g (named_unit p c g (packet t)) (served_at run plans t g (Some u)) (touched_at p c headers t g (Some u)) (is-pipe t g u early)
      ∙ ap (λ n. serve_line t g n (served_at run plans t g (Some u)) (touched_at p c headers t g (Some u)) ∷ []) (named t g u early less placed)

  -- so is an entry
  entry-is : (t g : ℕ) → t < length headers → g < length c.groups → entry_lines p c a (t * length c.groups + g) ≡ group_serves p c headers settings plans t g
  entry-is t g early less =
      let e : ℕ = t * length c.groups + g in
      let t_is : e / length c.groups ≡ t = div-mul-add t (length c.groups) g less in
      let g_is : e % length c.groups ≡ g = mod-mul-add t (length c.groups) g less in
      (λ i. access_lines (t_is i) (g_is i) (named_unit p c (g_is i) (packet_at (length p.packet.fields) a.packets.items (t_is i))) (source.accesses.served t g early less i) (source.accesses.arrays t g early less i))
      ∙ ap (λ fields. access_lines t g (named_unit p c g fields) (served_at run plans t g (place_of run t g)) (touched_at p c headers t g (place_of run t g))) (packet-is t early)
      ∙ access-is t g early less (place_of run t g) refl

  -- the trace of the answer is that of the source
  pub trace-is : answer_trace p c a ≡ trace_lines p c headers settings plans
  trace-is =
      ap (λ n. moves_lines 1 plans ++ lines_below (entry_lines p c a) n) source.accesses.by_size
      ∙ ap (λ l. moves_lines 1 plans ++ l) (
      below-rows (entry_lines p c a) (length headers) (length c.groups)
      ∙ below-same (λ t. lines_below (λ g. entry_lines p c a (t * length c.groups + g)) (length c.groups)) (arrival_serves p c headers settings plans) (length headers) (λ t early.
      below-same (λ g. entry_lines p c a (t * length c.groups + g)) (group_serves p c headers settings plans t) (length c.groups) (λ g less. entry-is t g early less)))
