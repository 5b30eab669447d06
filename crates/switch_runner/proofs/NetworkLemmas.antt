-- What a run answers is told as the report of the sequential run.
use Rattle.std.proofs.Common.{◌≡◌, ◌∙◌, ℤ, List, [], length, sym, ap, subst, false}
use Rattle.std.specs.Prelude.{All}
use Rattle.mp5_words.specs.declared.settings.Settings.{Settings}
use Rattle.domino_compile.specs.Compiled.{IsCompiled, Translation}
use Rattle.domino_compile.specs.MeaningRun.{AreWide as CodeWide}
use Rattle.switch_net.specs.declared.answer.Answer.{Answer}
use Rattle.switch_net.specs.Answer.{moves_of}
use Rattle.compiled_run.specs.SourceRun.{IsSourceAnswer}
use Rattle.report_text.specs.declared.report.Style.{Style}
use Rattle.report_text.specs.AnswerLines.{answer_lines, wanted}
use Rattle.report_text.specs.Report.{report, text_of}
use Rattle.report_text.specs.SourceTrace.{trace_lines}
use Rattle.report_text.specs.Told.{HasTrace, IsOfProgram}
use Rattle.switch_runner.specs.Running.{IsEnd}
use Rattle.switch_runner.specs.Top.{AreWide}
use Rattle.switch_runner.proofs.TopLemmas.{all_wide}
use Rattle.report_text.proofs.SourceLemmas.{source_lines, without_trace, of_program, has_trace}

-- of a program and its code as they are kept and as they are seen
module _ (kept seen : Translation) (viewed : kept ≡ seen) (made : IsCompiled kept.program kept.code) (hs : List (List ℤ)) (wide : AreWide (length seen.program.packet.fields) hs) where
  is_compiled : IsCompiled seen.program seen.code
  is_compiled = subst (λ (t : Translation). IsCompiled t.program t.code) viewed made

  all : All (λ header. length header ≡ length seen.program.packet.fields) hs
  all = all_wide (length seen.program.packet.fields) hs wide

  wide_code : CodeWide seen.code hs
  wide_code k d less = all k d less ∙ sym is_compiled.fields

  as_kept : (P : Translation → Type 0) → P seen → P kept
  as_kept P h = subst P (sym viewed) h

  module _ (settings : Settings) (a : Answer) (answers : IsSourceAnswer seen.program seen.code hs settings a) where
    pub answer_is_of : IsOfProgram kept.program kept.code a
    answer_is_of = as_kept (λ t. IsOfProgram t.program t.code a) (of_program seen.program hs all a answers.count answers.packets answers.cells seen.code is_compiled)

    pub answer_has : HasTrace kept.code a
    answer_has = as_kept (λ t. HasTrace t.code a) (has_trace seen.program seen.code hs settings a answers)

  pub answer_told : (settings : Settings) (a : Answer) (style : Style) → IsSourceAnswer seen.program seen.code hs settings a
      → text_of (answer_lines seen.program seen.code a style) ≡ report seen.program hs style.brief (wanted style.trace (trace_lines seen.program seen.code hs settings (moves_of a.plans.items)))
  answer_told settings a style answers = source_lines seen.program seen.code hs settings a answers is_compiled wide_code style

  -- what a run in order ends with
  module _ (a : Answer) (end : IsEnd kept.program hs a.arrivals a.packets.items a.cells.items) where
    its_end : IsEnd seen.program hs a.arrivals a.packets.items a.cells.items
    its_end = subst (λ (t : Translation). IsEnd t.program hs a.arrivals a.packets.items a.cells.items) viewed end

    pub end_is_of : IsOfProgram kept.program kept.code a
    end_is_of = as_kept (λ t. IsOfProgram t.program t.code a) (of_program seen.program hs all a its_end.arrivals its_end.packets its_end.registers seen.code is_compiled)

    pub end_told : (style : Style) → style.trace ≡ false → text_of (answer_lines seen.program seen.code a style) ≡ report seen.program hs style.brief []
    end_told style plain = without_trace seen.program hs all a its_end.arrivals its_end.packets its_end.registers seen.code style plain
