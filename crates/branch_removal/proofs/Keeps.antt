-- The lines of a body, over words, do what its execution does.
use Rattle.std.proofs.Common.{◌≡◌, ℕ, zero, suc, ◌<◌, ℤ, pos, true, false, List, [], ◌∷◌, length, get_or, replicate, None, refl, sym, ap, subst, ◌∙◌}
use Rattle.std.specs.List.{list_all}
use Rattle.mp5_words.specs.Cells.{cells_at}
use Rattle.domino_tree.specs.Execution.{State}
use Rattle.domino_check.specs.declared.numbered.CheckedStmt.{CheckedStmt}
use Rattle.domino_check.specs.NumberedMeaning.{Indexing, place, numbered_exec}
use Rattle.code_forms.specs.declared.guard.ArrayShape.{ArrayShape}
use Rattle.mp5_words.specs.Domain.{Loads, word_ops, words}
use Rattle.code_forms.specs.GuardMeaning as any
use Rattle.code_forms.specs.GuardMeaning.{length_at, indexes_of}
use Rattle.code_forms.specs.GuardValid.{line_fits, stay, no_marks}
use Rattle.branch_removal.specs.GuardedLines.{body_lines}
use Rattle.branch_removal.proofs.Direct.{Direct, direct_lines}
use Rattle.branch_removal.proofs.DirectLemmas.{removal}
use Rattle.branch_removal.proofs.Copies.{spot, AtArray, RightLoads, Joint, Fine, Run, direct_of, run}
use Rattle.branch_removal.proofs.Stays.{all_stay}

get_replicate : {A : Type 0} (n a : ℕ) (x : A) → get_or (replicate n x) a x ≡ x
get_replicate zero a x = refl
get_replicate (suc n) zero x = refl
get_replicate (suc n) (suc a) x = get_replicate n a x

length_replicate : {A : Type 0} (n : ℕ) (x : A) → length (replicate n x) ≡ n
length_replicate zero x = refl
length_replicate (suc n) x = ap suc (length_replicate n x)

module _ (shapes : List ArrayShape) (loads : Loads) (cells0 : List (List ℤ)) where
  -- the fields are those of the end, and each array is as its copy says
  pub record Kept (end : State) (g : any.Guarded ℤ) : Type 0 where
    pub fields : g.fields ≡ end.store.fields
    pub arrays : (a : ℕ) → AtArray shapes loads cells0 a end.store.fields (cells_at end.store.cells a) (get_or end.touched a false) (get_or g.copies a None)

  abbrev pub started : List ℤ → State
  started fields = record { store = record { fields = fields; cells = cells0 }; touched = replicate (length shapes) false }

  pub keeps : (ix : Indexing) (body : List CheckedStmt) (fields : List ℤ) (width : ℕ)
      → list_all (line_fits width (length shapes)) (body_lines body) ≡ true → stay shapes (no_marks shapes) (body_lines body) ≡ true
      → ((a : ℕ) (fields : List ℤ) → place ix a fields ≡ spot shapes loads cells0 a fields)
      → length cells0 ≡ length shapes → ((a : ℕ) (fields : List ℤ) → a < length shapes → spot shapes loads cells0 a fields < length (cells_at cells0 a))
      → RightLoads shapes loads cells0 (numbered_exec ix body (started fields))
      → Kept (numbered_exec ix body (started fields)) (any.guard_lines ℤ (words (length_at shapes) loads) (indexes_of ℤ word_ops shapes) (body_lines body) (any.guard_start ℤ (words (length_at shapes) loads) (length shapes) fields))
  keeps ix body fields width fit still places long roomy right = record {
    fields = ap (λ p. p.fields) done.guarded ∙ ap (λ s. s.store.fields) at_end;
    arrays = λ a.
        subst (λ s. AtArray shapes loads cells0 a s.store.fields (cells_at s.store.cells a) (get_or s.touched a false) (get_or g.copies a None)) at_end
        (subst (λ copies. AtArray shapes loads cells0 a done.last.fields (cells_at done.last.cells a) (get_or done.last.touched a false) (get_or copies a None)) (sym (ap (λ p. p.copies) done.guarded)) (done.fine.alike a));
  } where
    g : any.Guarded ℤ
    g = any.guard_lines ℤ (words (length_at shapes) loads) (indexes_of ℤ word_ops shapes) (body_lines body) (any.guard_start ℤ (words (length_at shapes) loads) (length shapes) fields)

    x0 : Joint shapes loads cells0
    x0 = record { fields = fields; cells = cells0; copies = replicate (length shapes) None; touched = replicate (length shapes) false; guards = pos 1 ∷ [] }

    fine0 : Fine shapes loads cells0 x0
    fine0 = record {
      alike = λ a.
          subst (λ t. AtArray shapes loads cells0 a fields (cells_at cells0 a) t (get_or (replicate (length shapes) None) a None)) (sym (get_replicate (length shapes) a false))
          (subst (AtArray shapes loads cells0 a fields (cells_at cells0 a) false) (sym (get_replicate (length shapes) a None)) refl);
      cells = long;
      copies = length_replicate (length shapes) None;
      touched = length_replicate (length shapes) false;
      always = refl;
    }

    direct : (direct_lines (spot shapes loads cells0) (body_lines body) (direct_of shapes loads cells0 x0)).state ≡ numbered_exec ix body (started fields)
    direct = ap (λ p. (direct_lines p (body_lines body) (direct_of shapes loads cells0 x0)).state) (sym (λ i a fields. places a fields i)) ∙ removal ix body (started fields)

    done : Run shapes loads cells0 (body_lines body) x0
    done = run shapes loads cells0 roomy (body_lines body) (no_marks shapes) (length_replicate (length shapes) false) (all_stay shapes loads cells0 width (body_lines body) (no_marks shapes) fit still) x0 fine0
        (λ a there. absurd (there (get_replicate (length shapes) a None)))
        (subst (RightLoads shapes loads cells0) (sym direct) right)

    at_end : (direct_of shapes loads cells0 done.last).state ≡ numbered_exec ix body (started fields)
    at_end = ap (λ (d : Direct). d.state) (sym done.direct) ∙ direct
