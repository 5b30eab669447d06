-- The steps, run in order, do what the lines do, over values of any kind.
use Rattle.std.proofs.Common.{◌≡◌, ℕ, zero, suc, ℤ, pos, List, [], ◌∷◌, ◌++◌, length, map, replicate, None, Some, refl, sym, ap, subst, ◌∙◌, append_assoc, length-append, arith}
use Rattle.std.proofs.Math.Seq.{get_or-append_seam}
use Rattle.code_forms.specs.declared.guard.GuardExpr.{GuardExpr}
use Rattle.code_forms.specs.declared.guard.GuardLine.{GuardLine}
use Rattle.code_forms.specs.declared.guard.ArrayShape.{ArrayShape}
use Rattle.mp5_words.specs.Domain.{Domain, Loads, words, Mark, marks, sources}
use Rattle.code_forms.specs.GuardValid.{arrays_in}
use Rattle.mp5_words.specs.Copies.{at}
use Rattle.code_forms.specs.GuardMeaning.{index_at, indexes_of, guard_lines, guard_start}
use Rattle.code_forms.specs.FlatMeaning.{Slots, operand_value, run_from}
use Rattle.code_forms.proofs.FlatLemmas.{InOrder, steps_front, runs_hold, prefix}
use Rattle.ssa_flatten.specs.Flattening.{Sofar, slots_from, flat_start, flat_lines, flat_steps, stores_from}
use Rattle.ssa_flatten.proofs.FlatLines.{Stands, Ready, stood, lines_ready}

-- no array stands in an index
abbrev pub PlainIndexes : List ArrayShape → Type 0
PlainIndexes shapes = (a : ℕ) (index : GuardExpr) → index_at shapes a ≡ Some index → arrays_in index ≡ []

module _ (V : Type 0) (d : Domain V) where
  slots_stand : (done header more : List V) (k : ℕ) → length done ≡ k → map (operand_value V d (done ++ (header ++ more))) (slots_from k (length header)) ≡ header
  slots_stand done [] more k long = refl
  slots_stand done (z ∷ header) more k long =
      let here : at V d.ops (done ++ (z ∷ (header ++ more))) k ≡ z = subst (λ n. at V d.ops (done ++ (z ∷ (header ++ more))) n ≡ z) long (get_or-append_seam done z (header ++ more) (d.ops.number (pos 0))) in
      let rest : map (operand_value V d (done ++ (z ∷ (header ++ more)))) (slots_from (suc k) (length header)) ≡ header =
      ap (λ env. map (operand_value V d env) (slots_from (suc k) (length header))) (sym (append_assoc done (z ∷ []) (header ++ more)))
      ∙ slots_stand (done ++ z ∷ []) header more (suc k) (omega (arith, long, length-append done (z ∷ []))) in
      λ i. here i ∷ rest i

  nothing_touched : (env : List V) (n : ℕ) → map (stood (operand_value V d env)) (replicate n None) ≡ replicate n None
  nothing_touched env zero = refl
  nothing_touched env (suc n) = ap (λ l. None ∷ l) (nothing_touched env n)

  -- on a header of as many values as there are fields, the last operands stand for what the lines leave
  pub keeps : (fields : ℕ) (shapes : List ArrayShape) (lines : List GuardLine) (slots : Slots) (header : List V)
      → length header ≡ fields → (plain : PlainIndexes shapes)
      → InOrder slots fields (flat_steps fields shapes lines)
      → Stands V (operand_value V d (run_from V d slots (flat_steps fields shapes lines) header)) (flat_lines fields shapes lines (flat_start fields shapes)) (guard_lines V d (indexes_of V d.ops shapes) lines (guard_start V d (length shapes) header))
  keeps fields shapes lines slots header long plain order = ready.stands (steps_front V d slots env fields s.steps (stores_from 0 s.copies) (runs_hold V d slots (flat_steps fields shapes lines) header fields long order)) where
    env : List V
    env = run_from V d slots (flat_steps fields shapes lines) header

    s : Sofar
    s = flat_lines fields shapes lines (flat_start fields shapes)

    start : Stands V (operand_value V d env) (flat_start fields shapes) (guard_start V d (length shapes) header)
    start = record {
      fields =
          ap (λ n. map (operand_value V d env) (slots_from 0 n)) (sym long)
          ∙ ap (λ e. map (operand_value V d e) (slots_from 0 (length header))) (prefix V d slots (flat_steps fields shapes lines) header).1
          ∙ slots_stand [] header (prefix V d slots (flat_steps fields shapes lines) header).0 0 refl;
      copies = nothing_touched env (length shapes);
      guards = refl;
    }

    ready : Ready V d slots shapes fields env plain s (guard_lines V d (indexes_of V d.ops shapes) lines (guard_start V d (length shapes) header))
    ready = lines_ready V d slots shapes fields env plain lines (flat_start fields shapes) (guard_start V d (length shapes) header) (record { next = omega arith; stands = λ holds. start })

-- one proof, three instances
pub words_keep : (lengths : ℕ → ℕ) (loads : Loads) (fields : ℕ) (shapes : List ArrayShape) (lines : List GuardLine) (slots : Slots) (header : List ℤ)
    → length header ≡ fields → (plain : PlainIndexes shapes)
    → InOrder slots fields (flat_steps fields shapes lines)
    → Stands ℤ (operand_value ℤ (words lengths loads) (run_from ℤ (words lengths loads) slots (flat_steps fields shapes lines) header)) (flat_lines fields shapes lines (flat_start fields shapes)) (guard_lines ℤ (words lengths loads) (indexes_of ℤ (words lengths loads).ops shapes) lines (guard_start ℤ (words lengths loads) (length shapes) header))
words_keep lengths loads = keeps ℤ (words lengths loads)

pub sources_keep : (fields : ℕ) (shapes : List ArrayShape) (lines : List GuardLine) (slots : Slots) (header : List (List ℕ))
    → length header ≡ fields → (plain : PlainIndexes shapes)
    → InOrder slots fields (flat_steps fields shapes lines)
    → Stands (List ℕ) (operand_value (List ℕ) sources (run_from (List ℕ) sources slots (flat_steps fields shapes lines) header)) (flat_lines fields shapes lines (flat_start fields shapes)) (guard_lines (List ℕ) sources (indexes_of (List ℕ) sources.ops shapes) lines (guard_start (List ℕ) sources (length shapes) header))
sources_keep = keeps (List ℕ) sources

pub marks_keep : (lengths : ℕ → ℕ) (fields : ℕ) (shapes : List ArrayShape) (lines : List GuardLine) (slots : Slots) (header : List Mark)
    → length header ≡ fields → (plain : PlainIndexes shapes)
    → InOrder slots fields (flat_steps fields shapes lines)
    → Stands Mark (operand_value Mark (marks lengths) (run_from Mark (marks lengths) slots (flat_steps fields shapes lines) header)) (flat_lines fields shapes lines (flat_start fields shapes)) (guard_lines Mark (marks lengths) (indexes_of Mark (marks lengths).ops shapes) lines (guard_start Mark (marks lengths) (length shapes) header))
marks_keep lengths = keeps Mark (marks lengths)
