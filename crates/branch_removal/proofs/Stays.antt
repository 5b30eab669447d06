-- Valid guarded code leaves the indexes of touched arrays.
use Rattle.std.proofs.Common.{◌≡◌, ℕ, ℤ, Bool, true, false, not, List, [], ◌∷◌, length, refl, sym}
use Rattle.std.specs.List.{list_all}
use Rattle.mp5_words.specs.Cells.{touching}
use Rattle.code_forms.specs.declared.guard.GuardLine.{GuardLine}
use Rattle.code_forms.specs.declared.guard.GuardLine.TheVariants as line
use Rattle.code_forms.specs.declared.guard.ArrayShape.{ArrayShape}
use Rattle.code_forms.specs.GuardValid.{line_arrays, line_fits, moves_marked, leaves, stay}
use Rattle.mp5_words.specs.Domain.{Loads, word_ops}
use Rattle.code_forms.proofs.ValidLemmas.{and_front, and_back, word_stays}
use Rattle.code_forms.proofs.BelowLemmas.{line_below}
use Rattle.branch_removal.proofs.Copies.{LeavesMarked, Still}

not_true : (b : Bool) → not b ≡ true → b ≡ false
not_true true e = sym e
not_true false e = refl

module _ (shapes : List ArrayShape) (loads : Loads) (cells0 : List (List ℤ)) (fields : ℕ) where
  one_stays : (l : GuardLine) (marks : List Bool) → leaves shapes marks l ≡ true → LeavesMarked shapes loads cells0 l marks
  one_stays (line.Test cond under holds fails) marks e = tt
  one_stays (line.SetField f guard value) marks e = λ a marked fields z. word_stays ℤ word_ops f marks shapes a fields z (not_true (moves_marked f marks shapes) e) marked
  one_stays (line.SetCell a guard value) marks e = tt

  -- the tests of validity give what step 2 asks for
  pub all_stay : (lines : List GuardLine) (marks : List Bool) → list_all (line_fits fields (length shapes)) lines ≡ true → stay shapes marks lines ≡ true → Still shapes loads cells0 marks lines
  all_stay [] marks fit still = tt
  all_stay (l ∷ lines) marks fit still = (
    line_below fields (length shapes) l (and_front (line_fits fields (length shapes) l) _ fit),
    one_stays l (touching (line_arrays l) marks) (and_front (leaves shapes (touching (line_arrays l) marks) l) _ still),
    all_stay lines (touching (line_arrays l) marks) (and_back (line_fits fields (length shapes) l) _ fit) (and_back (leaves shapes (touching (line_arrays l) marks) l) _ still),
  )
