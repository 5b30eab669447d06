-- Along the lines of valid code the index of each touched array is that of the fields now.
use Rattle.std.proofs.Common.{◌≡◌, ℕ, zero, suc, ◌<◌, Bool, true, false, not, List, [], ◌∷◌, length, get_or, slice_set, replicate, Option, None, Some, refl, sym, subst, ◌∙◌, length-set}
use Rattle.std.specs.List.{fold, list_all}
use Rattle.std.proofs.lemmas.List.{get_or-set_same}
use Rattle.code_forms.specs.declared.guard.GuardLine.{GuardLine}
use Rattle.code_forms.specs.declared.guard.GuardLine.TheVariants as line
use Rattle.code_forms.specs.declared.guard.ArrayShape.{ArrayShape}
use Rattle.mp5_words.specs.Cells.{touching}
use Rattle.mp5_words.specs.Domain.{Domain}
use Rattle.mp5_words.specs.Copies.{Copy, touched, touch}
use Rattle.code_forms.specs.GuardValid.{line_arrays, line_fits, moves_marked, leaves, stay}
use Rattle.code_forms.specs.GuardMeaning.{index_at, index_value, indexes_of, line_guard, Guarded, guard_at, stored_under, touch_all, done_line, guard_line, guard_lines}
use Rattle.code_forms.proofs.EachLemmas.{Each}
use Rattle.code_forms.proofs.ValidLemmas.{and_front, and_back, word_stays}
use Rattle.code_forms.proofs.BelowLemmas.{line_below}
use Rattle.ssa_flatten.proofs.Sound.{set_any}

not_true : (b : Bool) → not b ≡ true → b ≡ false
not_true true e = sym e
not_true false e = refl

-- a mark stays
marked : (marks : List Bool) (a b : ℕ) → get_or marks a false ≡ true → get_or (slice_set marks b true) a false ≡ true
marked [] a b e = e
marked (m ∷ marks) zero zero e = refl
marked (m ∷ marks) (suc a) zero e = e
marked (m ∷ marks) zero (suc b) e = e
marked (m ∷ marks) (suc a) (suc b) e = marked marks a b e

pub all_none : {X : Type 0} (n a : ℕ) → get_or {A = Option X} (replicate n None) a None ≡ None
all_none zero a = refl
all_none (suc n) zero = refl
all_none (suc n) (suc a) = all_none n a

module _ (V : Type 0) (d : Domain V) (header : ℕ) (shapes : List ArrayShape) where
  -- an array that is touched is marked, and its index is that of these fields
  abbrev pub IndexNow : List V → List Bool → ℕ → Option (Copy V) → Type 0
  IndexNow fields marks a None = Unit {0}
  IndexNow fields marks a (Some c) = (get_or marks a false ≡ true) × (c.index ≡ index_value V d.ops (index_at shapes a) fields)

  abbrev pub AllNow : List Bool → List V → List (Option (Copy V)) → Type 0
  AllNow marks fields copies = (a : ℕ) → IndexNow fields marks a (get_or copies a None)

  more_marks : (fields : List V) (marks : List Bool) (a b : ℕ) (c : Option (Copy V)) → IndexNow fields marks a c → IndexNow fields (slice_set marks b true) a c
  more_marks fields marks a b None h = tt
  more_marks fields marks a b (Some c) h = (marked marks a b h.0, h.1)

  -- ---- touches

  one_now : (marks : List Bool) (fields : List V) (guard : V) (copies : List (Option (Copy V))) (b : ℕ) → b < length marks → AllNow marks fields copies
      → AllNow (slice_set marks b true) fields (touch V d (indexes_of V d.ops shapes) fields guard copies b)
  one_now marks fields guard copies b there h = set_any (IndexNow fields (slice_set marks b true)) None copies b _ (λ a. more_marks fields marks a b (get_or copies a None) (h a))
      (by_copy (get_or copies b None) (h b)) where
        by_copy : (c : Option (Copy V)) → IndexNow fields marks b c → IndexNow fields (slice_set marks b true) b (Some (touched V d b (indexes_of V d.ops shapes b fields) guard c))
        by_copy None h = (get_or-set_same marks b true false there, refl)
        by_copy (Some c) h = (marked marks b b h.0, h.1)

  touches_now : (bs : List ℕ) (marks : List Bool) (fields : List V) (guard : V) (copies : List (Option (Copy V))) → Each (λ b. b < length marks) bs → AllNow marks fields copies
      → AllNow (touching bs marks) fields (fold (touch V d (indexes_of V d.ops shapes) fields guard) copies bs)
  touches_now [] marks fields guard copies there h = h
  touches_now (b ∷ bs) marks fields guard copies there h =
      touches_now bs (slice_set marks b true) fields guard _ (subst (λ n. Each (λ c. c < n) bs) (sym (length-set marks b true)) there.1) (one_now marks fields guard copies b there.0 h)

  -- as many marks
  touching_length : (bs : List ℕ) (marks : List Bool) → length (touching bs marks) ≡ length marks
  touching_length [] marks = refl
  touching_length (b ∷ bs) marks = touching_length bs (slice_set marks b true) ∙ length-set marks b true

  -- ---- lines

  done_now : (l : GuardLine) (marks : List Bool) (g : Guarded V) → leaves shapes marks l ≡ true → AllNow marks g.fields g.copies → AllNow marks (done_line V d l g).fields (done_line V d l g).copies
  done_now (line.Test cond under first second) marks g leave h = h
  done_now (line.SetField f k value) marks g leave h = λ a. by_copy a (get_or g.copies a None) (h a) where
    by_copy : (a : ℕ) (c : Option (Copy V)) → IndexNow g.fields marks a c → IndexNow (done_line V d (line.SetField f k value) g).fields marks a c
    by_copy a None h = tt
    by_copy a (Some c) h = (h.0, h.1 ∙ sym (word_stays V d.ops f marks shapes a g.fields _ (not_true (moves_marked f marks shapes) leave) h.0))
  done_now (line.SetCell a k value) marks g leave h = set_any (IndexNow g.fields marks) None g.copies a _ h (by_copy _ (get_or g.copies a None) (h a)) where
    by_copy : (v : V) (c : Option (Copy V)) → IndexNow g.fields marks a c → IndexNow g.fields marks a (stored_under V d a k (guard_at V d g k) v c)
    by_copy v None h = tt
    by_copy v (Some c) h = h

  pub lines_now : (lines : List GuardLine) (marks : List Bool) (g : Guarded V) → length marks ≡ length shapes
      → list_all (line_fits header (length shapes)) lines ≡ true → stay shapes marks lines ≡ true → AllNow marks g.fields g.copies
      → (more : List Bool) × AllNow more (guard_lines V d (indexes_of V d.ops shapes) lines g).fields (guard_lines V d (indexes_of V d.ops shapes) lines g).copies
  lines_now [] marks g long fits stays h = (marks, h)
  lines_now (l ∷ lines) marks g long fits stays h =
      let after : List Bool = touching (line_arrays l) marks in
      let there = subst (λ n. Each (λ a. a < n) (line_arrays l)) (sym long) (line_below header (length shapes) l (and_front (line_fits header (length shapes) l) _ fits)) in
      let t : Guarded V = touch_all V d (indexes_of V d.ops shapes) (line_arrays l) (line_guard l) g in
      let touched_now : AllNow after t.fields t.copies = touches_now (line_arrays l) marks g.fields (guard_at V d g (line_guard l)) g.copies there h in
      lines_now lines after (guard_line V d (indexes_of V d.ops shapes) l g) (touching_length (line_arrays l) marks ∙ long) (and_back (line_fits header (length shapes) l) _ fits) (and_back (leaves shapes after l) _ stays)
      (done_now l after t (and_front (leaves shapes after l) _ stays) touched_now)

  -- no array is touched before the first line
  pub none_now : (n a : ℕ) (marks : List Bool) (fields : List V) → IndexNow fields marks a (get_or (replicate n None) a None)
  none_now zero a marks fields = tt
  none_now (suc n) zero marks fields = tt
  none_now (suc n) (suc a) marks fields = subst (IndexNow fields marks (suc a)) (sym (all_none n a)) tt
