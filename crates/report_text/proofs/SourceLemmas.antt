-- The report of an answer that is the source's, and what a report needs of it.
use Rattle.std.proofs.Common.{◌≡◌, ◌∙◌, ◌<◌, ◌≤◌, ◌+◌, ◌*◌, ◌++◌, ◌∷◌, [], ℕ, ℤ, List, Bool, length, take, false, get_or, slice_index_or, sym, ap, subst, arith}
use Rattle.std.specs.Prelude.{All}
use Rattle.std.proofs.lemmas.List.{length-map, get_or-map}
use Rattle.std.proofs.lemmas.List.Elements.{All-weaker}
use Rattle.mp5_words.specs.declared.settings.Settings.{Settings}
use Rattle.capture_io.specs.Rows.{rows}
use Rattle.domino_tree.specs.declared.program.Program.{Program}
use Rattle.domino_names.specs.Infos.{infos_of}
use Rattle.code_forms.specs.Staged.{Staged, unit_count}
use Rattle.shard_rounds.specs.declared.plan.Move.{Move}
use Rattle.shard_rounds.specs.declared.plan.Plan.{Plan}
use Rattle.shard_rounds.specs.Rounds.{IsPlan, CanMove}
use Rattle.run_laws.specs.Run.{Run, run_of, unit_counts}
use Rattle.run_laws.specs.LawfulPlans.{AreLawful, owners_after}
use Rattle.round_plans.proofs.ChoicePlans.{lawful_plan}
use Rattle.domino_compile.specs.Compiled.{IsCompiled}
use Rattle.domino_compile.specs.MeaningRun.{AreWide}
use Rattle.switch_net.specs.declared.answer.Answer.{Answer}
use Rattle.switch_net.specs.Answer.{moves_of}
use Rattle.compiled_run.specs.SourceRun.{packet_words, cell_words, IsSourceAnswer}
use Rattle.compiled_run.proofs.UnitLemmas.{named_place}
use Rattle.report_text.specs.declared.report.Style.{Style}
use Rattle.report_text.specs.Report.{cells_in, done_line, end_lines, body_lines, report, text_of}
use Rattle.report_text.specs.AnswerLines.{answer_body, answer_lines, answer_trace, wanted}
use Rattle.report_text.specs.SourceTrace.{trace_lines}
use Rattle.report_text.specs.Told.{AreFewMoves, HasTrace, IsOfProgram}
use Rattle.report_text.proofs.EndLemmas.{cells-told, cells-counted, packets-told, packets-counted}
use Rattle.report_text.proofs.TraceLemmas.{trace-is}

-- ---- what the run ends with

module _ (p : Program) (headers : List (List ℤ)) (wide : All (λ header. length header ≡ length p.packet.fields) headers) (a : Answer)
    (count : a.arrivals ≡ length headers) (packets : a.packets.items ≡ packet_words p headers) (cells : a.cells.items ≡ cell_words p headers) where
  packets-are : rows a.arrivals (length p.packet.fields) a.packets.items ≡ rows (length headers) (length p.packet.fields) (packet_words p headers)
  packets-are = λ i. rows (count i) (length p.packet.fields) (packets i)

  -- what the answer ends with is what the sequential run ends with
  body_is : (brief : Bool) → answer_body p a brief ≡ body_lines p headers brief
  body_is brief =
      let its_packets = packets-are ∙ packets-told p headers wide in
      let its_cells = ap (cells_in (infos_of p)) cells ∙ cells-told p headers in
      λ i. end_lines p.packet.fields (infos_of p) (its_packets i) (its_cells i) brief

  -- without the trace the report is that of the sequential run alone
  pub without_trace : (c : Staged) (style : Style) → style.trace ≡ false → text_of (answer_lines p c a style) ≡ report p headers style.brief []
  unfolding answer_lines
  without_trace c style off =
      let body = body_is style.brief in
      λ i. text_of (body i ++ (wanted (off i) (answer_trace p c a) ++ (done_line (count i) ∷ [])))

  -- the answer has the words and the cells of the program
  pub of_program : (c : Staged) → IsCompiled p c → IsOfProgram p c a
  of_program c is = record {
    fields = is.fields;
    arrays = is.lengths;
    packets = ap length packets ∙ packets-counted p headers wide ∙ ap (λ n. n * length p.packet.fields) (sym count);
    cells = ap length cells ∙ cells-counted p headers;
  }

-- ---- the source's answer

-- the moves of a lawful plan are at most one of each group
few_moves : (run : Run) (plans : List (List Move)) (e : ℕ) → AreLawful run plans → e < length plans → AreFewMoves (length run.code.groups) (slice_index_or plans e [])
few_moves run plans e lawful less =
    let plan : IsPlan (owners_after run (take e plans)) (slice_index_or plans e []) = lawful_plan run plans e lawful less in
    let count : length (unit_counts run) ≡ length run.code.groups = length-map run.code.groups (unit_count run.code) in
    record {
      once = plan.single;
      below = All-weaker (CanMove (owners_after run (take e plans))) (λ (m : Move). m.group + 1 ≤ length run.code.groups) (λ m can. let here = can.unit.group in omega (arith, here, count)) (slice_index_or plans e []) plan.each;
    }

module _ (p : Program) (c : Staged) (headers : List (List ℤ)) (settings : Settings) (a : Answer) (source : IsSourceAnswer p c headers settings a) where
  -- it has a trace
  pub has_trace : HasTrace c a
  has_trace = record {
    by = source.accesses.by_size ∙ ap (λ n. n * length c.groups) (sym source.count);
    touched = source.accesses.touched_size ∙ ap (λ n. n * length c.groups) (sym source.count);
    plans = λ k d less.
        let all : length (moves_of a.plans.items) ≡ length a.plans.items = length-map a.plans.items (λ (q : Plan). q.moves.items) in
        let here : slice_index_or (moves_of a.plans.items) k [] ≡ (get_or a.plans.items k d).moves.items = get_or-map (λ (q : Plan). q.moves.items) a.plans.items k d [] less in
        subst (AreFewMoves (length c.groups)) here (few_moves (run_of c headers settings) (moves_of a.plans.items) k source.plans.lawful (omega (arith, less, all)));
  }

  module _ (is : IsCompiled p c) (wide : AreWide c headers) where
    -- its report is that of the sequential run, with the trace of the source where it is wanted
    pub source_lines : (style : Style) → text_of (answer_lines p c a style) ≡ report p headers style.brief (wanted style.trace (trace_lines p c headers settings (moves_of a.plans.items)))
    unfolding answer_lines
    source_lines style =
        let body = body_is p headers (λ k d less. wide k d less ∙ is.fields) a source.count source.packets source.cells style.brief in
        let trace = trace-is p c headers settings is wide a source (named_place p c headers settings is wide) in
        λ i. text_of (body i ++ (wanted style.trace (trace i) ++ (done_line (source.count i) ∷ [])))
