-- The header run tells what the marks tell: each clean value in its slot, and 1 in that of a guard exactly where it is
-- open.
use Rattle.std.proofs.Common.{◌≡◌, ◌≢◌, ◌⊎◌, inl, inr, ℕ, zero, suc, ◌+◌, ◌<◌, ◌≤◌, ℤ, pos, Bool, true, false, not, ◌&&◌, if◌then◌else◌, List, [], ◌∷◌, ◌++◌, length, slice_set, nat_lt, Option, None, Some, refl, sym, ap, subst, ◌∙◌, arith}
use Rattle.std.specs.List.{fold}
use Rattle.std.specs.Ordering.{int_eq}
use Rattle.std.proofs.lemmas.List.{length-set, length-append, get_or-set_same, get_or-set_other}
use Rattle.mp5_words.specs.Words.{op1, op2, truth, flag, hash, cell}
use Rattle.mp5_words.specs.Cells.{picked, word_at}
use Rattle.mp5_words.specs.Domain.{Mark, marks, may, words}
use Rattle.code_forms.specs.declared.flat.Operand.{Operand}
use Rattle.code_forms.specs.declared.flat.Operand.TheVariants as operand
use Rattle.code_forms.specs.declared.flat.Instr.{Instr}
use Rattle.code_forms.specs.declared.flat.Instr.TheVariants as instr
use Rattle.code_forms.specs.declared.parts.HeaderStep.{HeaderStep}
use Rattle.code_forms.specs.FlatMeaning.{Slots, instr_value, covered, copy_in, steps_in}
use Rattle.code_forms.specs.FlatValid.{Written, is_written, is_guard, instr_fits, instrs_fit, third_fits, after, writes, makes_guard, makes_copy, after_all}
use Rattle.code_forms.specs.FlatValid.{at as slot_mark}
use Rattle.code_forms.specs.Staged.{operand_word}
use Rattle.code_forms.specs.StagedMeaning.{no_loads}
use Rattle.code_forms.proofs.ValidLemmas.{and_front, and_back}
use Rattle.code_forms.proofs.FlatLemmas.{AllHold}
use Rattle.std.proofs.lemmas.Bool.Decides.{eqb_tells}
use Rattle.index_resolve.specs.Clean.{is_none}
use Rattle.index_resolve.specs.HeaderRun.{mark_at, operand_mark}
use Rattle.index_resolve.specs.HeaderSteps.{clean_at, operand_clean, header_instr, step_of, header_steps}
use Rattle.index_resolve.proofs.Related.{left_nil, right_nil, both_clean, three_clean}

-- what stands in the slots below one tells their marks
pub record Told (k : ℕ) (w : Written) (ms : List Mark) (room : List ℤ) : Type 0 where
  pub words : length w.words ≡ k
  pub guards : length w.guards ≡ k
  pub clean : (j : ℕ) → j < k → (mark_at ms j).arrays ≡ [] → word_at room j ≡ (mark_at ms j).word
  pub opened : (j : ℕ) → slot_mark w.guards j ≡ true → word_at room j ≡ flag (mark_at ms j).is_open

-- a mark that isn't there is none
marked_within : (l : List Bool) (k : ℕ) → slot_mark l k ≡ true → k < length l
marked_within [] k e = absurd cc
marked_within (x ∷ l) zero e = omega arith
marked_within (x ∷ l) (suc k) e = omega (arith, marked_within l k e)

int_is : (m n : ℤ) → int_eq m n ≡ true → m ≡ n
int_is m n e = grind arith

module _ (k : ℕ) (w : Written) (ms : List Mark) (room : List ℤ) (told : Told k w ms room) where
  pub clean_word : (x : Operand) → is_written w x ≡ true → (operand_mark ms x).arrays ≡ [] → operand_word room x ≡ (operand_mark ms x).word
  clean_word (operand.Slot j) fits none = told.clean j (subst (λ n. j < n) told.words (marked_within w.words j fits)) none
  clean_word (operand.Number n) fits none = refl

  pub clean_guard : (x : Operand) → is_guard w x ≡ true → (operand_mark ms x).arrays ≡ [] → operand_word room x ≡ (operand_mark ms x).word
  clean_guard (operand.Slot j) fits none = told.clean j (subst (λ n. j < n) told.guards (marked_within w.guards j fits)) none
  clean_guard (operand.Number n) fits none = refl

  pub open_word : (x : Operand) → is_guard w x ≡ true → operand_word room x ≡ flag (operand_mark ms x).is_open
  open_word (operand.Slot j) fits = told.opened j fits
  open_word (operand.Number n) fits = int_is n (pos 1) fits

-- what the header run writes of an instruction tells its mark
pub record Gives (is_guard : Bool) (m : Mark) (z : ℤ) : Type 0 where
  pub clean : m.arrays ≡ [] → z ≡ m.word
  pub opened : is_guard ≡ true → z ≡ flag m.is_open

-- where it writes nothing, there is nothing to tell
pub record Silent (is_guard : Bool) (m : Mark) : Type 0 where
  pub unclean : m.arrays ≡ [] → ⊥
  pub other : is_guard ≡ false

no_array : (a : ℕ) (arrays : List ℕ) → (a ∷ arrays) ≡ [] → ⊥
no_array a arrays e = absurd cc

not_true : false ≡ true → ⊥
not_true e = absurd cc

pub truth_flag : (b : Bool) → truth (flag b) ≡ b
truth_flag true = refl
truth_flag false = refl

and_true : (b : Bool) → (b && true) ≡ b
and_true true = refl
and_true false = refl

-- later copies are moves or picks
abbrev pub AreCopies : List (List ℕ) → ℕ → List Instr → Type 0
AreCopies later m [] = Unit {0}
AreCopies later m (i ∷ instrs) = ((a : ℕ) → copy_in later 0 m ≡ Some a → makes_copy i ≡ true) × AreCopies later (suc m) instrs

module _ (lengths : ℕ → ℕ) (slots : Slots) where
  -- the word of an instruction in the header run
  abbrev pub header_word : List ℤ → Instr → ℤ
  header_word room i = instr_value ℤ (words lengths no_loads) slots room i

  -- the mark of an instruction that makes such a copy
  abbrev pub mark_made : List Mark → Option ℕ → Instr → Mark
  mark_made ms copy i = covered Mark (marks lengths) copy (instr_value Mark (marks lengths) slots ms i)

  abbrev pub Tells : Bool → Mark → List ℤ → Option Instr → Type 0
  Tells guard m room None = Silent guard m
  Tells guard m room (Some i) = Gives guard m (header_word room i)

  -- an instruction that makes no guard stays where it is clean
  stays : (own : Bool) (m : Mark) (room : List ℤ) (i : Instr) → own ≡ is_none m.arrays → (m.arrays ≡ [] → header_word room i ≡ m.word) → Tells false m room (if own then Some i else None)
  stays own m room i is clean = by_arrays own m.arrays refl is where
    by_arrays : (own : Bool) (arrays : List ℕ) → m.arrays ≡ arrays → own ≡ is_none arrays → Tells false m room (if own then Some i else None)
    by_arrays true [] e is = record { clean = clean; opened = λ g. elim (not_true g) [ ] }
    by_arrays false [] e is = elim (not_true is) [ ]
    by_arrays true (a ∷ arrays) e is = absurd cc
    by_arrays false (a ∷ arrays) e is = record { unclean = λ none. no_array a arrays (sym e ∙ none); other = refl }

  module _ (k : ℕ) (w : Written) (ms : List Mark) (room : List ℤ) (told : Told k w ms room) (clean : List Bool) (is_clean : (j : ℕ) → clean_at clean j ≡ is_none (mark_at ms j).arrays) where
    word : (x : Operand) → is_written w x ≡ true → (operand_mark ms x).arrays ≡ [] → operand_word room x ≡ (operand_mark ms x).word
    word = clean_word k w ms room told

    operand_is : (x : Operand) → operand_clean clean x ≡ is_none (operand_mark ms x).arrays
    operand_is (operand.Slot j) = is_clean j
    operand_is (operand.Number n) = refl

    -- a test of a condition, kept or as its guard
    test_tells : (f : Bool → Bool) (i : Instr) (g c : Operand) (own : Bool) (arrays : List ℕ) → is_guard w g ≡ true → is_written w c ≡ true
        → header_word room i ≡ flag (truth (operand_word room g) && f (truth (operand_word room c)))
        → (operand_mark ms c).arrays ≡ arrays → own ≡ is_none arrays
        → Gives true (record { arrays = (operand_mark ms g).arrays ++ (operand_mark ms c).arrays; word = flag (truth (operand_mark ms g).word && f (truth (operand_mark ms c).word)); is_open = (operand_mark ms g).is_open && may (operand_mark ms c).arrays (f (truth (operand_mark ms c).word)) })
        (header_word room (if own then i else instr.Move g))
    test_tells f i g c true [] gfits cfits value none is =
        let cword : operand_word room c ≡ (operand_mark ms c).word = word c cfits none in record {
          clean = λ e. value ∙ (λ j. flag (truth (clean_guard k w ms room told g gfits (left_nil _ _ e) j) && f (truth (cword j))));
          opened = λ e. value ∙ (λ j. flag (truth (open_word k w ms room told g gfits j) && f (truth (cword j))))
              ∙ (λ j. flag (truth_flag (operand_mark ms g).is_open j && may (sym none j) (f (truth (operand_mark ms c).word))));
        }
    test_tells f i g c false [] gfits cfits value none is = elim (not_true is) [ ]
    test_tells f i g c true (a ∷ arrays) gfits cfits value some is = absurd cc
    test_tells f i g c false (a ∷ arrays) gfits cfits value some is = record {
      clean = λ e. elim (no_array a arrays (sym some ∙ right_nil (operand_mark ms g).arrays _ e)) [ ];
      opened = λ e. open_word k w ms room told g gfits ∙ ap flag (sym (and_true (operand_mark ms g).is_open)) ∙ (λ j. flag ((operand_mark ms g).is_open && may (sym some j) (f (truth (operand_mark ms c).word))));
    }

    -- what the header run makes of an instruction tells its mark
    pub instr_tells : (n : ℕ) (copy : Option ℕ) (i : Instr) (own : Bool) → instr_fits n w i ≡ true → ((a : ℕ) → copy ≡ Some a → makes_copy i ≡ true)
        → own ≡ is_none (mark_made ms copy i).arrays → Tells (makes_guard i) (mark_made ms copy i) room (header_instr clean own i)
    instr_tells n (Some a) (instr.Move x) own fits copied is = stays own _ room _ is (λ e. elim (no_array a [] e) [ ])
    instr_tells n (Some a) (instr.Pick c x y) own fits copied is = stays own _ room _ is (λ e. elim (no_array a [] e) [ ])
    instr_tells n (Some a) (instr.One op x) own fits copied is = elim (not_true (copied a refl)) [ ]
    instr_tells n (Some a) (instr.Two op x y) own fits copied is = elim (not_true (copied a refl)) [ ]
    instr_tells n (Some a) (instr.Hash kind x y z) own fits copied is = elim (not_true (copied a refl)) [ ]
    instr_tells n (Some a) (instr.Yes g c) own fits copied is = elim (not_true (copied a refl)) [ ]
    instr_tells n (Some a) (instr.No g c) own fits copied is = elim (not_true (copied a refl)) [ ]
    instr_tells n (Some a) (instr.Index b x) own fits copied is = elim (not_true (copied a refl)) [ ]
    instr_tells n (Some a) (instr.Load b) own fits copied is = elim (not_true (copied a refl)) [ ]
    instr_tells n (Some a) (instr.Store b x) own fits copied is = elim (not_true (copied a refl)) [ ]
    instr_tells n None (instr.One op a) own fits copied is = stays own _ room _ is (λ e. ap (op1 op) (word a fits e))
    instr_tells n None (instr.Two op a b) own fits copied is = stays own _ room _ is (both_clean (operand_mark ms a).arrays (operand_mark ms b).arrays (op2 op) _ _ _ _ (word a (and_front _ _ fits)) (word b (and_back (is_written w a) _ fits)))
    instr_tells n None (instr.Pick c a b) own fits copied is =
        let rest = and_back (is_written w c) _ fits in
        stays own _ room _ is (three_clean (operand_mark ms c).arrays (operand_mark ms a).arrays (operand_mark ms b).arrays picked _ _ _ _ _ _ (word c (and_front _ _ fits)) (word a (and_front _ _ rest)) (word b (and_back (is_written w a) _ rest)))
    instr_tells n None (instr.Hash kind a b c) own fits copied is =
        let all = and_back (third_fits kind c) _ fits in
        let rest = and_back (is_written w a) _ all in
        stays own _ room _ is (three_clean (operand_mark ms a).arrays (operand_mark ms b).arrays (operand_mark ms c).arrays (hash kind) _ _ _ _ _ _ (word a (and_front _ _ all)) (word b (and_front _ _ rest)) (word c (and_back (is_written w b) _ rest)))
    instr_tells n None (instr.Move a) own fits copied is = stays own _ room _ is (word a fits)
    instr_tells n None (instr.Yes g c) own fits copied is = test_tells (λ b. b) (instr.Yes g c) g c (operand_clean clean c) (operand_mark ms c).arrays (and_front _ _ fits) (and_back (is_guard w g) _ fits) refl refl (operand_is c)
    instr_tells n None (instr.No g c) own fits copied is = test_tells not (instr.No g c) g c (operand_clean clean c) (operand_mark ms c).arrays (and_front _ _ fits) (and_back (is_guard w g) _ fits) refl refl (operand_is c)
    instr_tells n None (instr.Index array a) own fits copied is = stays own _ room _ is (λ e. ap (λ z. pos (cell z (lengths array))) (word a (and_back (nat_lt array n) _ fits) e))
    instr_tells n None (instr.Load array) own fits copied is = record { unclean = λ e. no_array array [] e; other = refl }
    instr_tells n None (instr.Store array a) own fits copied is = record { unclean = λ e. no_array array [] e; other = refl }

  -- a step of the header run
  abbrev pub run_step : List ℤ → HeaderStep → List ℤ
  run_step room s = slice_set room s.slot (header_word room s.instr)

  -- the slot is an earlier one, or this one
  new_mark : (marks : List Bool) (b : Bool) (j k : ℕ) → length marks ≡ k → slot_mark (marks ++ b ∷ []) j ≡ true → ((j < k) × (slot_mark marks j ≡ true)) ⊎ ((j ≡ k) × (b ≡ true))
  new_mark [] b zero k long e = inr ((omega (arith, long)), e)
  new_mark [] b (suc j) k long e = absurd cc
  new_mark (x ∷ l) b zero k long e = inl (omega (arith, long), e)
  new_mark (x ∷ l) b (suc j) zero long e = absurd (omega (arith, long))
  new_mark (x ∷ l) b (suc j) (suc k) long e = elim (new_mark l b j k (omega (arith, long)) e) [
    | inl t ↦ (let less : j < k = t.0 in inl (omega (arith, less), t.1))
    | inr t ↦ (let same : j ≡ k = t.0 in inr (omega (arith, same), t.1))
  ]

  longer : (l : List Bool) (b : Bool) (k : ℕ) → length l ≡ k → length (l ++ b ∷ []) ≡ suc k
  longer l b k long = omega (arith, long, length-append l (b ∷ []))

  earlier : (j k : ℕ) → j < suc k → (j < k) ⊎ (j ≡ k)
  earlier j k less = elim (eqb_tells j k) [ inl t ↦ inr t.1 | inr t ↦ (let other : j ≡ k → ⊥ = t.1 in inl (omega arith)) ]

  -- the slots behind one instruction more
  told_more : (k : ℕ) (w : Written) (ms : List Mark) (room : List ℤ) (i : Instr) (o : Option Instr) → Told k w ms room → k < length room → Tells (makes_guard i) (mark_at ms k) room o
      → Told (suc k) (after w i) ms (fold run_step room (step_of k o))
  told_more k w ms room i None told within tells = record {
    words = longer w.words (writes i) k told.words;
    guards = longer w.guards (makes_guard i) k told.guards;
    clean = λ j less none. elim (earlier j k less) [
      | inl t ↦ told.clean j t none
      | inr t ↦ elim (tells.unclean (subst (λ n. (mark_at ms n).arrays ≡ []) t none)) [ ]
    ];
    opened = λ j e. elim (new_mark w.guards (makes_guard i) j k told.guards e) [
      | inl t ↦ told.opened j t.1
      | inr t ↦ elim (not_true (sym tells.other ∙ t.1)) [ ]
    ];
  }
  told_more k w ms room i (Some x) told within tells = record {
    words = longer w.words (writes i) k told.words;
    guards = longer w.guards (makes_guard i) k told.guards;
    clean = λ j less none. elim (earlier j k less) [
      | inl t ↦ other j t ∙ told.clean j t none
      | inr t ↦ here j t ∙ tells.clean (subst (λ n. (mark_at ms n).arrays ≡ []) t none) ∙ ap (λ n. (mark_at ms n).word) (sym t)
    ];
    opened = λ j e. elim (new_mark w.guards (makes_guard i) j k told.guards e) [
      | inl t ↦ other j t.0 ∙ told.opened j t.1
      | inr t ↦ here j t.0 ∙ tells.opened t.1 ∙ ap (λ n. flag (mark_at ms n).is_open) (sym t.0)
    ];
  } where
    here : (j : ℕ) → j ≡ k → word_at (slice_set room k (header_word room x)) j ≡ header_word room x
    here j e = ap (word_at (slice_set room k (header_word room x))) e ∙ get_or-set_same room k (header_word room x) (pos 0) within

    other : (j : ℕ) → j < k → word_at (slice_set room k (header_word room x)) j ≡ word_at room j
    other j less = let apart : j ≢ k = λ (e : j ≡ k). omega arith in get_or-set_other room k j (header_word room x) (pos 0) apart

  fold_join : (xs ys : List HeaderStep) (room : List ℤ) → fold run_step room (xs ++ ys) ≡ fold run_step (fold run_step room xs) ys
  fold_join [] ys room = refl
  fold_join (x ∷ xs) ys room = fold_join xs ys (run_step room x)

  pub run_length : (steps : List HeaderStep) (room : List ℤ) → length (fold run_step room steps) ≡ length room
  run_length [] room = refl
  run_length (s ∷ steps) room = run_length steps (run_step room s) ∙ length-set room s.slot (header_word room s.instr)

  -- the slots behind all instructions
  pub run_tells : (n : ℕ) (later : List (List ℕ)) (ms : List Mark) (clean : List Bool) → ((j : ℕ) → clean_at clean j ≡ is_none (mark_at ms j).arrays)
      → (instrs : List Instr) (k m : ℕ) (w : Written) (room : List ℤ) → AllHold Mark (marks lengths) slots ms k (steps_in later m instrs)
      → instrs_fit n w instrs ≡ true → AreCopies later m instrs → k + length instrs ≤ length room → Told k w ms room
      → Told (k + length instrs) (after_all w instrs) ms (fold run_step room (header_steps clean k instrs))
  run_tells n later ms clean is_clean [] k m w room held fits copies wide told = subst (λ c. Told c w ms room) (omega arith) told
  run_tells n later ms clean is_clean (i ∷ instrs) k m w room held fits copies wide told =
      let o : Option Instr = header_instr clean (clean_at clean k) i in
      let tells : Tells (makes_guard i) (mark_at ms k) room o = subst (λ v. Tells (makes_guard i) v room o) (sym held.0)
      (instr_tells k w ms room told clean is_clean n (copy_in later 0 m) i (clean_at clean k) (and_front _ _ fits) copies.0 (is_clean k ∙ ap (λ (v : Mark). is_none v.arrays) held.0)) in
      let next = told_more k w ms room i o told (omega (arith, wide)) tells in
      let rest = run_tells n later ms clean is_clean instrs (suc k) (suc m) (after w i) (fold run_step room (step_of k o)) held.2 (and_back (instr_fits n w i) _ fits) copies.1
      (omega (arith, wide, run_length (step_of k o) room)) next in
      subst (λ r. Told (k + length (i ∷ instrs)) (after_all w (i ∷ instrs)) ms r) (sym (fold_join (step_of k o) (header_steps clean (suc k) instrs) room))
      (subst (λ c. Told c (after_all w (i ∷ instrs)) ms (fold run_step (fold run_step room (step_of k o)) (header_steps clean (suc k) instrs))) (omega arith) rest)
