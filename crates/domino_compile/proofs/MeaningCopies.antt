-- An array under no guard that holds keeps the word that was loaded from it.
use Rattle.std.proofs.Common.{◌≡◌, ℕ, zero, suc, ◌<◌, ℤ, pos, Bool, true, false, ◌||◌, if◌then◌else◌, List, [], ◌∷◌, ◌++◌, length, fold, replicate, slice_set, Option, None, Some, refl, sym, ap, subst, ◌∙◌, arith}
use Rattle.std.specs.List.{list_any, slice_index_or}
use Rattle.mp5_words.specs.Words.{truth, cell}
use Rattle.mp5_words.specs.Cells.{word_at}
use Rattle.mp5_words.specs.Domain.{Loads, words}
use Rattle.mp5_words.specs.Copies.{Copy, Indexes, touched, touch}
use Rattle.code_forms.specs.declared.guard.GuardLine.{GuardLine}
use Rattle.code_forms.specs.declared.guard.GuardLine.TheVariants as line
use Rattle.code_forms.specs.GuardValid.{arrays_in}
use Rattle.code_forms.specs.GuardMeaning.{Guarded, guard_line, guard_lines, guard_start, stored_under}
use Rattle.code_forms.proofs.LoadLemmas.{guards_grow}
use Rattle.code_forms.proofs.ValueLemmas.{or_front, or_back}

any_front : (xs ys : List ℤ) → list_any truth (xs ++ ys) ≡ false → list_any truth xs ≡ false
any_front [] ys none = refl
any_front (x ∷ xs) ys none =
    let first : truth x ≡ false = or_front (truth x) (list_any truth (xs ++ ys)) none in
    let rest : list_any truth xs ≡ false = any_front xs ys (or_back (truth x) (list_any truth (xs ++ ys)) none) in
    λ i. first i || rest i

any_back : (xs ys : List ℤ) → list_any truth (xs ++ ys) ≡ false → list_any truth ys ≡ false
any_back [] ys none = none
any_back (x ∷ xs) ys none = any_back xs ys (or_back (truth x) (list_any truth (xs ++ ys)) none)

-- what holds of all items and of a new one holds after it is set
set_all : {X : Type 0} (P : ℕ → Option X → Type 0) (copies : List (Option X)) (b : ℕ) (x : Option X) → P b x → ((a : ℕ) → P a (slice_index_or copies a None))
    → (a : ℕ) → P a (slice_index_or (slice_set copies b x) a None)
set_all P [] b x new all a = all a
set_all P (y ∷ ys) zero x new all zero = new
set_all P (y ∷ ys) zero x new all (suc a) = all (suc a)
set_all P (y ∷ ys) (suc b) x new all zero = all zero
set_all P (y ∷ ys) (suc b) x new all (suc a) = set_all (λ n. P (suc n)) ys b x new (λ n. all (suc n)) a

set_here : {X : Type 0} (Q : Option X → Type 0) (copies : List (Option X)) (b : ℕ) (x : Option X) → Q x → Q None → Q (slice_index_or (slice_set copies b x) b None)
set_here Q [] b x new none = none
set_here Q (y ∷ ys) zero x new none = new
set_here Q (y ∷ ys) (suc b) x new none = set_here Q ys b x new none

module _ (lengths : ℕ → ℕ) (loads : Loads) (indexes : Indexes ℤ) where
  -- where no guard of the array holds, its latest copy is what was loaded
  abbrev pub Stays : ℕ → Option (Copy ℤ) → Type 0
  Stays a None = Unit {0}
  Stays a (Some c) = list_any truth c.under ≡ false → c.latest ≡ loads a (cell c.index (lengths a))

  -- where no guard of the array holds, this one doesn't
  abbrev Shut : ℤ → Option (Copy ℤ) → Type 0
  Shut guard None = Unit {0}
  Shut guard (Some c) = list_any truth c.under ≡ false → truth guard ≡ false

  touched_stays : (a : ℕ) (index guard : ℤ) (o : Option (Copy ℤ)) → Stays a o → Stays a (Some (touched ℤ (words lengths loads) a index guard o))
  touched_stays a index guard None stays = λ none. refl
  touched_stays a index guard (Some c) stays = λ none. stays (any_front c.under (guard ∷ []) none)

  touched_shut : (a : ℕ) (index guard : ℤ) (o : Option (Copy ℤ)) → Shut guard (Some (touched ℤ (words lengths loads) a index guard o))
  touched_shut a index guard None = λ none. or_front (truth guard) false none
  touched_shut a index guard (Some c) = λ none. or_front (truth guard) false (any_back c.under (guard ∷ []) none)

  -- what touching keeps of each array, and makes of those that are touched
  all_touched : (P : ℕ → Option (Copy ℤ) → Type 0) (guard : ℤ) → ((a : ℕ) (index : ℤ) (o : Option (Copy ℤ)) → P a o → P a (Some (touched ℤ (words lengths loads) a index guard o)))
      → (fields : List ℤ) (arrays : List ℕ) (copies : List (Option (Copy ℤ))) → ((a : ℕ) → P a (slice_index_or copies a None))
      → (a : ℕ) → P a (slice_index_or (fold (touch ℤ (words lengths loads) indexes fields guard) copies arrays) a None)
  all_touched P guard step fields [] copies all a = all a
  all_touched P guard step fields (b ∷ arrays) copies all a =
      all_touched P guard step fields arrays (touch ℤ (words lengths loads) indexes fields guard copies b)
      (set_all P copies b (Some (touched ℤ (words lengths loads) b (indexes b fields) guard (slice_index_or copies b None))) (step b (indexes b fields) (slice_index_or copies b None) (all b)) all) a

  -- each array stays as others are touched
  still : (guard : ℤ) (fields : List ℤ) (arrays : List ℕ) (copies : List (Option (Copy ℤ))) → ((a : ℕ) → Stays a (slice_index_or copies a None))
      → (a : ℕ) → Stays a (slice_index_or (fold (touch ℤ (words lengths loads) indexes fields guard) copies arrays) a None)
  still guard = all_touched Stays guard (λ a index o. touched_stays a index guard o)

  -- the first of the touched arrays has the guard
  first_shut : (guard : ℤ) (fields : List ℤ) (b : ℕ) (arrays : List ℕ) (copies : List (Option (Copy ℤ)))
      → Shut guard (slice_index_or (fold (touch ℤ (words lengths loads) indexes fields guard) copies (b ∷ arrays)) b None)
  first_shut guard fields b arrays copies =
      let new : Option (Copy ℤ) = Some (touched ℤ (words lengths loads) b (indexes b fields) guard (slice_index_or copies b None)) in
      let here : Shut guard (slice_index_or (slice_set copies b new) b None) = set_here (Shut guard) copies b new (touched_shut b (indexes b fields) guard (slice_index_or copies b None)) tt in
      all_touched (λ n o. n ≡ b → Shut guard o) guard (λ a index o h e. touched_shut a index guard o) fields arrays (slice_set copies b new)
      (λ n e. subst (λ m. Shut guard (slice_index_or (slice_set copies b new) m None)) (sym e) here) b refl

  -- an assignment under a guard that doesn't hold leaves the copy
  kept_under : (a k : ℕ) (guard v : ℤ) (o : Option (Copy ℤ)) → (k ≡ 0 → guard ≡ pos 1) → Stays a o → Shut guard o → Stays a (stored_under ℤ (words lengths loads) a k guard v o)
  kept_under a k guard v None one stays shut = tt
  kept_under a zero guard v (Some c) one stays shut = λ none. absurd (holds (ap truth (sym (one refl)) ∙ shut none)) where
    holds : true ≡ false → ⊥
    holds e = cc
  kept_under a (suc k) guard v (Some c) one stays shut = λ none. ap (λ (b : Bool). if b then v else c.latest) (shut none) ∙ stays none

  -- the first guard is 1, and each array stays
  pub record Fine (g : Guarded ℤ) : Type 0 where
    pub some : 0 < length g.guards
    pub one : word_at g.guards 0 ≡ pos 1
    pub all : (a : ℕ) → Stays a (slice_index_or g.copies a None)

  line_fine : (l : GuardLine) (g : Guarded ℤ) → Fine g → Fine (guard_line ℤ (words lengths loads) indexes l g)
  line_fine (line.Test cond under holds fails) g fine =
      let grown = guards_grow ℤ (words lengths loads) indexes (line.Test cond under holds fails) g 0 fine.some in
      record { some = grown.1; one = grown.0 ∙ fine.one; all = still (word_at g.guards under) g.fields (arrays_in cond) g.copies fine.all }
  line_fine (line.SetField f guard e) g fine = record { some = fine.some; one = fine.one; all = still (word_at g.guards guard) g.fields (arrays_in e) g.copies fine.all }
  line_fine (line.SetCell a guard e) g fine = record {
    some = fine.some;
    one = fine.one;
    all =
        let gv : ℤ = word_at g.guards guard in
        let copies : List (Option (Copy ℤ)) = fold (touch ℤ (words lengths loads) indexes g.fields gv) g.copies (a ∷ arrays_in e) in
        let each : (b : ℕ) → Stays b (slice_index_or copies b None) = still gv g.fields (a ∷ arrays_in e) g.copies fine.all in
        set_all Stays copies a _
        (kept_under a guard gv _ (slice_index_or copies a None) (λ z. ap (word_at g.guards) z ∙ fine.one) (each a) (first_shut gv g.fields a (arrays_in e) g.copies)) each;
  }

  lines_fine : (lines : List GuardLine) (g : Guarded ℤ) → Fine g → Fine (guard_lines ℤ (words lengths loads) indexes lines g)
  lines_fine [] g fine = fine
  lines_fine (l ∷ lines) g fine = lines_fine lines (guard_line ℤ (words lengths loads) indexes l g) (line_fine l g fine)

  none_there : (n a : ℕ) → Stays a (slice_index_or (replicate n None) a None)
  none_there n a = subst (Stays a) (sym (is n a)) tt where
    nothing : Option (Copy ℤ)
    nothing = None

    is : (n a : ℕ) → slice_index_or (replicate n nothing) a None ≡ None
    is zero a = refl
    is (suc n) zero = refl
    is (suc n) (suc a) = is n a

  -- behind all lines each array stays
  pub lines_stay : (lines : List GuardLine) (arrays : ℕ) (fields : List ℤ) (a : ℕ)
      → Stays a (slice_index_or (guard_lines ℤ (words lengths loads) indexes lines (guard_start ℤ (words lengths loads) arrays fields)).copies a None)
  lines_stay lines arrays fields a = (lines_fine lines (guard_start ℤ (words lengths loads) arrays fields) (record { some = omega arith; one = refl; all = none_there arrays })).all a
