-- Places of staged code are those of the definition, where its header run is made from which values are clean.
use Rattle.std.proofs.Common.{◌≡◌, ℕ, zero, suc, ◌+◌, ◌<◌, ◌==◌, ℤ, pos, Bool, true, false, ◌&&◌, ◌||◌, if◌then◌else◌, nat_lt, nat_le, List, [], ◌∷◌, ◌++◌, length, map, replicate, None, Some, refl, sym, ap, subst, ◌∙◌, arith}
use Rattle.std.specs.List.{fold, list_any, list_all}
use Rattle.std.proofs.lemmas.List.{length-append, get_or_append_left}
use Rattle.std.proofs.lemmas.Bool.Decides.{nat_tests}
use Rattle.mp5_words.specs.Domain.{Mark, marks, mark}
use Rattle.mp5_words.specs.Words.{truth}
use Rattle.mp5_words.specs.Cells.{word_at, natural}
use Rattle.code_forms.specs.declared.flat.FlatArray.{FlatArray}
use Rattle.code_forms.specs.declared.flat.Operand.{Operand}
use Rattle.code_forms.specs.declared.flat.Instr.{Instr}
use Rattle.code_forms.specs.FlatMeaning.{copy_in, steps_of, flat_length}
use Rattle.code_forms.specs.FlatValid.{Written, is_flat_code, is_limited, instrs_fit, arrays_fit, array_fits, is_copy, makes_copy, instr_at, events, is_guard, is_life, is_some, header_slots, after_all, ascends}
use Rattle.code_forms.specs.FlatValid.{at as slot_mark}
use Rattle.code_forms.specs.Staged.{Staged, slot_of_index, operand_word, guards_of, first_array}
use Rattle.code_forms.specs.StagedMeaning.{header_words, is_touching, is_open, unit_number, place_on}
use Rattle.code_forms.proofs.ValidLemmas.{and_front, and_back}
use Rattle.code_forms.proofs.FlatLemmas.{AllHold, runs_hold, prefix}
use Rattle.code_forms.proofs.OrderLemmas.{Lives, in_order, length_replicate}
use Rattle.code_forms.proofs.StagedLemmas.{array_fits_at}
use Rattle.code_forms.specs.declared.parts.StagedGroup.{StagedGroup}
use Rattle.flat_graph.specs.Orders.{copies_in}
use Rattle.index_resolve.specs.Clean.{clean_slots}
use Rattle.index_resolve.specs.HeaderRun.{code_marks, mark_at, operand_mark, is_reserved, unit_on, place_on_marks}
use Rattle.index_resolve.specs.HeaderSteps.{header_steps}
use Rattle.index_resolve.proofs.IndexLemmas.{guards_at}
use Rattle.index_resolve.proofs.HeaderLemmas.{truth_flag, Told, AreCopies, run_step, run_tells, open_word}
use Rattle.index_resolve.proofs.CleanLemmas.{clean_is}

-- ---- what valid code says

same_number : (a b : ℕ) → (a == b) ≡ true → a ≡ b
same_number a b e = grind (arith, nat_tests, e)

-- what all of a list keep, one that is in it keeps
all_any : (test : ℕ → Bool) (k : ℕ) (xs : List ℕ) → list_all test xs ≡ true → list_any (λ n. k == n) xs ≡ true → test k ≡ true
all_any test k [] all any = absurd cc
all_any test k (x ∷ xs) all any = by (k == x) refl any (all_any test k xs (and_back (test x) _ all)) where
  by : (b : Bool) → (k == x) ≡ b → (b || list_any (λ n. k == n) xs) ≡ true → (list_any (λ n. k == n) xs ≡ true → test k ≡ true) → test k ≡ true
  by true e any next = ap test (same_number k x e) ∙ and_front (test x) _ all
  by false e any next = next any

-- a later copy is a move or a pick
copy_moves : (whole : List Instr) (w : Written) (n : ℕ) (arrays : List FlatArray) (k a : ℕ) → arrays_fit whole w n arrays ≡ true → copy_in (copies_in arrays) n k ≡ Some a → makes_copy (instr_at whole k) ≡ true
copy_moves whole w n [] k a fit e = absurd cc
copy_moves whole w n (f ∷ arrays) k a fit e = by (list_any (λ m. k == m) f.copies) refl e (copy_moves whole w (suc n) arrays k a (and_back (array_fits whole w n f) _ fit)) where
  here : array_fits whole w n f ≡ true
  here = and_front (array_fits whole w n f) _ fit

  copies : list_all (is_copy n whole) f.copies ≡ true
  copies = and_front (list_all (is_copy n whole) f.copies) (ascends 0 f.copies) (and_back (list_all (is_guard w) f.touched) (list_all (is_copy n whole) f.copies && ascends 0 f.copies) (and_back (is_life (is_some f.touched) (events n whole)) (list_all (is_guard w) f.touched && (list_all (is_copy n whole) f.copies && ascends 0 f.copies)) (and_back (nat_le f.length 65536) (is_life (is_some f.touched) (events n whole) && (list_all (is_guard w) f.touched && (list_all (is_copy n whole) f.copies && ascends 0 f.copies))) (and_back (nat_lt 0 f.length) (nat_le f.length 65536 && (is_life (is_some f.touched) (events n whole) && (list_all (is_guard w) f.touched && (list_all (is_copy n whole) f.copies && ascends 0 f.copies)))) here))))

  by : (b : Bool) → list_any (λ m. k == m) f.copies ≡ b → (if b then Some n else copy_in (copies_in arrays) (suc n) k) ≡ Some a
      → (copy_in (copies_in arrays) (suc n) k ≡ Some a → makes_copy (instr_at whole k) ≡ true) → makes_copy (instr_at whole k) ≡ true
  by true any e next = and_front (makes_copy (instr_at whole k)) _ (all_any (is_copy n whole) k f.copies copies any)
  by false any e next = next e

-- ---- the header's own slots

header_mark : (header : List ℤ) (j : ℕ) → mark_at (map (mark []) header) j ≡ mark [] (word_at header j)
header_mark [] j = refl
header_mark (z ∷ header) zero = refl
header_mark (z ∷ header) (suc j) = header_mark header j

map_length : (header : List ℤ) → length (map (mark []) header) ≡ length header
map_length [] = refl
map_length (z ∷ header) = ap suc (map_length header)

no_guard : (n j : ℕ) → slot_mark (replicate n false) j ≡ true → ⊥
no_guard zero j e = absurd cc
no_guard (suc n) zero e = absurd cc
no_guard (suc n) (suc j) e = no_guard n j e

-- each instruction by its place, from a number on
copies_along : (later : List (List ℕ)) (instrs : List Instr) (m : ℕ) → ((j a : ℕ) → j < length instrs → copy_in later 0 (m + j) ≡ Some a → makes_copy (instr_at instrs j) ≡ true) → AreCopies later m instrs
copies_along later [] m all = tt
copies_along later (i ∷ instrs) m all = (
  (λ a e. all 0 a (omega arith) (subst (λ n. copy_in later 0 n ≡ Some a) (omega arith) e)),
  copies_along later instrs (suc m) (λ j a less e. all (suc j) a (omega (arith, less)) (subst (λ n. copy_in later 0 n ≡ Some a) (omega arith) e)),
)

module _ (c : Staged) (valid : is_flat_code c.fields c.arrays c.instrs c.last ≡ true) where
  fitting : instrs_fit (length c.arrays) (header_slots c.fields) c.instrs ≡ true
  fitting = and_front _ _ (and_back (is_limited c.fields c.arrays c.instrs) _ valid)

  pub arrays_fitting : arrays_fit c.instrs (after_all (header_slots c.fields) c.instrs) 0 c.arrays ≡ true
  arrays_fitting = and_front _ _ (and_back (instrs_fit (length c.arrays) (header_slots c.fields) c.instrs) _ (and_back (is_limited c.fields c.arrays c.instrs) _ valid))

  lives : Lives (length c.arrays) c.instrs
  lives a below =
      let life = (array_fits_at c.instrs (after_all (header_slots c.fields) c.instrs) 0 c.arrays a below arrays_fitting).2 in
      (life.0, subst (λ n. is_life life.0 (events n c.instrs) ≡ true) (omega arith) life.1)

  copies : AreCopies (copies_in c.arrays) 0 c.instrs
  copies = copies_along (copies_in c.arrays) c.instrs 0 (λ j a less e. copy_moves c.instrs (after_all (header_slots c.fields) c.instrs) 0 c.arrays j a arrays_fitting (subst (λ n. copy_in (copies_in c.arrays) 0 n ≡ Some a) (omega arith) e))

  module _ (steps : c.header ≡ header_steps (clean_slots c.fields c.arrays c.instrs) c.fields c.instrs) (header : List ℤ) (long : length header ≡ c.fields) where
    abbrev ms : List Mark
    ms = code_marks c.fields c.arrays c.instrs header

    held : AllHold Mark (marks (flat_length c.arrays)) (slot_of_index c) ms c.fields (steps_of c.arrays c.instrs)
    held = runs_hold Mark (marks (flat_length c.arrays)) (slot_of_index c) (steps_of c.arrays c.instrs) (map (mark []) header) c.fields (map_length header ∙ long)
        (in_order c.fields (length c.arrays) c.instrs lives (copies_in c.arrays) fitting)

    abbrev start : List ℤ
    start = header ++ replicate (length c.instrs) (pos 0)

    first : (j : ℕ) → j < c.fields → mark_at ms j ≡ mark [] (word_at header j)
    first j less =
        let rest = prefix Mark (marks (flat_length c.arrays)) (slot_of_index c) (steps_of c.arrays c.instrs) (map (mark []) header) in
        ap (λ l. mark_at l j) rest.1 ∙ get_or_append_left (map (mark []) header) rest.0 (mark [] (pos 0)) j (omega (arith, less, long, map_length header)) ∙ header_mark header j

    begins : Told c.fields (header_slots c.fields) ms start
    begins = record {
      words = length_replicate c.fields true;
      guards = length_replicate c.fields false;
      clean = λ j less none. get_or_append_left header (replicate (length c.instrs) (pos 0)) (pos 0) j (omega (arith, less, long)) ∙ ap (λ (m : Mark). m.word) (sym (first j less));
      opened = λ j e. elim (no_guard c.fields j e) [ ];
    }

    start_long : length start ≡ c.fields + length c.instrs
    start_long = omega (arith, long, length-append header (replicate (length c.instrs) (pos 0)), length_replicate (length c.instrs) (pos 0))

    -- the header run tells the marks
    pub told : Told (c.fields + length c.instrs) (after_all (header_slots c.fields) c.instrs) ms (header_words c header)
    told = subst (λ l. Told (c.fields + length c.instrs) (after_all (header_slots c.fields) c.instrs) ms (fold (run_step (flat_length c.arrays) (slot_of_index c)) start l)) (sym steps)
        (run_tells (flat_length c.arrays) (slot_of_index c) (length c.arrays) (copies_in c.arrays) ms (clean_slots c.fields c.arrays c.instrs) (clean_is c.fields c.arrays c.instrs header long)
        c.instrs c.fields 0 (header_slots c.fields) start held fitting copies (omega (arith, start_long)) begins)

    -- ---- places

    open_same : (guards : List Operand) → list_all (is_guard (after_all (header_slots c.fields) c.instrs)) guards ≡ true
        → is_open (header_words c header) guards ≡ list_any (λ x. (operand_mark ms x).is_open) guards
    open_same [] fit = refl
    open_same (x ∷ guards) fit =
        let w : Written = after_all (header_slots c.fields) c.instrs in
        let here : truth (operand_word (header_words c header) x) ≡ (operand_mark ms x).is_open =
        ap truth (open_word (c.fields + length c.instrs) w ms (header_words c header) told x (and_front (is_guard w x) _ fit)) ∙ truth_flag (operand_mark ms x).is_open in
        let rest = open_same guards (and_back (is_guard w x) _ fit) in
        (λ i. here i || rest i)

    -- an array is touched in the header run exactly where it is reserved
    pub reserved : (a : ℕ) → is_touching c (header_words c header) a ≡ is_reserved c.arrays ms a
    reserved a = open_same (guards_of c.arrays a) (guards_at c.instrs (after_all (header_slots c.fields) c.instrs) 0 c.arrays a arrays_fitting)

    -- the mark of the Index of each array is clean
    abbrev pub IsClear : ℕ → Type 0
    IsClear a = (slot_of_index c a < c.fields + length c.instrs) × ((mark_at ms (slot_of_index c a)).arrays ≡ [])

    unit_same : (g : StagedGroup) → (g.sharded ≡ true → IsClear (first_array g)) → unit_number c (header_words c header) g ≡ unit_on c.fields c.instrs ms g.sharded g.arrays
    unit_same g clear = by g.sharded clear where
      by : (s : Bool) → (s ≡ true → IsClear (first_array g))
          → (if s then natural (word_at (header_words c header) (slot_of_index c (first_array g))) else 0) ≡ (if s then natural (mark_at ms (slot_of_index c (first_array g))).word else 0)
      by false clear = refl
      by true clear = ap natural (told.clean (slot_of_index c (first_array g)) (clear refl).0 (clear refl).1)

    pub place_same : (g : StagedGroup) → (g.sharded ≡ true → IsClear (first_array g)) → place_on c (header_words c header) g ≡ place_on_marks c.fields c.arrays c.instrs ms g.sharded g.arrays
    place_same g clear i = if list_any (λ a. reserved a i) g.arrays then Some (unit_same g clear i) else None
