-- What is kept of the code so far, so that it is valid at the end: over plain lists.
use Rattle.std.proofs.Common.{◌≡◌, ◌≢◌, ℕ, zero, suc, ◌+◌, ◌<◌, ◌≤◌, nat_le, pos, true, ◌&&◌, List, [], ◌∷◌, ◌++◌, length, take, get_or, slice_set, Option, None, Some, refl, sym, ap, subst, ◌∙◌, append_assoc, length-append, length-set, arith}
use Rattle.std.proofs.lemmas.List.{get_or_append_left, take-append-le}
use Rattle.std.proofs.Math.Seq.{get_or-append_seam, take-append_seam}
use Rattle.std.proofs.lemmas.Bool.Decides.{nat_tests}
use Rattle.code_forms.specs.declared.flat.Operand.{Operand}
use Rattle.code_forms.specs.declared.flat.Operand.TheVariants as operand
use Rattle.code_forms.specs.declared.flat.Instr.{Instr}
use Rattle.code_forms.specs.declared.flat.Instr.TheVariants as instr
use Rattle.mp5_words.specs.Copies.{Copy}
use Rattle.code_forms.specs.FlatValid.{Written, Event, Indexes, Loads, header_slots, is_written, is_guard, instrs_fit, after, after_all, events, is_some, is_loaded, makes_copy, instr_at, is_copy, ascends}
use Rattle.code_forms.proofs.EachLemmas.{Each, each_join}
use Rattle.code_forms.proofs.ValidLemmas.{and_front, and_back, and_both}
use Rattle.code_forms.proofs.FitLemmas.{fit_join, after_join, after_length, events_join, kept, kept_guard}
use Rattle.code_forms.specs.FlatMeaning.{index_operand}
use Rattle.code_forms.proofs.OrderLemmas.{operand_behind, operand_within}
use Rattle.ssa_flatten.specs.Flattening.{operand_at}

-- ---- lists

-- what holds at each place of a list holds when the item at a place is another, where it holds of that
pub set_at : {X : Type 0} (P : ℕ → X → Type 0) (d : X) (xs : List X) (k : ℕ) (x : X) → k < length xs → ((j : ℕ) → j ≢ k → P j (get_or xs j d)) → P k x → (j : ℕ) → P j (get_or (slice_set xs k x) j d)
set_at P d [] k x there all new j = absurd (omega arith)
set_at P d (y ∷ ys) zero x there all new zero = new
set_at P d (y ∷ ys) zero x there all new (suc j) = all (suc j) (λ e. absurd (omega (arith, e)))
set_at P d (y ∷ ys) (suc k) x there all new zero = all zero (λ e. absurd (omega (arith, e)))
set_at P d (y ∷ ys) (suc k) x there all new (suc j) = set_at (λ m. P (suc m)) d ys k x (omega (arith, there)) (λ m other. all (suc m) (λ e. other (omega (arith, e)))) new j

-- the same where it holds at that place too
pub set_any : {X : Type 0} (P : ℕ → X → Type 0) (d : X) (xs : List X) (k : ℕ) (x : X) → ((j : ℕ) → P j (get_or xs j d)) → P k x → (j : ℕ) → P j (get_or (slice_set xs k x) j d)
set_any P d [] k x all new j = all j
set_any P d (y ∷ ys) zero x all new zero = new
set_any P d (y ∷ ys) zero x all new (suc j) = all (suc j)
set_any P d (y ∷ ys) (suc k) x all new zero = all zero
set_any P d (y ∷ ys) (suc k) x all new (suc j) = set_any (λ m. P (suc m)) d ys k x (λ m. all (suc m)) new j

pub each_as : {X : Type 0} (P Q : X → Type 0) → ((x : X) → P x → Q x) → (xs : List X) → Each P xs → Each Q xs
each_as P Q to [] all = tt
each_as P Q to (x ∷ xs) all = (to x all.0, each_as P Q to xs all.1)

pub each_at : {X : Type 0} (P : X → Type 0) (d : X) (xs : List X) (k : ℕ) → k < length xs → Each P xs → P (get_or xs k d)
each_at P d [] k there all = absurd (omega arith)
each_at P d (x ∷ xs) zero there all = all.0
each_at P d (x ∷ xs) (suc k) there all = each_at P d xs k (omega (arith, there)) all.1

-- a number behind all others
pub ascends_last : (next k : ℕ) (ks : List ℕ) → next ≤ k → Each (λ m. m < k) ks → ascends next ks ≡ true → ascends next (ks ++ k ∷ []) ≡ true
ascends_last next k [] le below up = and_both (nat_le next k) true (grind (arith, nat_tests, le)) refl
ascends_last next k (m ∷ ks) le below up =
    and_both (nat_le next m) (ascends (suc m) (ks ++ k ∷ [])) (and_front (nat_le next m) _ up)
    (ascends_last (suc m) k ks (omega (arith, below.0)) below.1 (and_back (nat_le next m) _ up))

-- ---- the code so far

module _ (header arrays : ℕ) where
  -- which slots hold words and guards behind instructions
  abbrev pub slots : List Instr → Written
  slots instrs = after_all (header_slots header) instrs

  abbrev pub GuardSound : Written → Operand → Type 0
  GuardSound w x = (is_guard w x ≡ true) × (is_written w x ≡ true)

  -- an array with such events and such an index is not touched, or loaded, and its operands are slots that hold
  -- words, and guards
  abbrev pub CopySound : Written → List Event → Operand → Option (Copy Operand) → Type 0
  CopySound w es x None = es ≡ []
  CopySound w es x (Some c) = (es ≡ Indexes ∷ Loads ∷ []) × (is_written w c.latest ≡ true) × (is_some c.under ≡ true) × Each (GuardSound w) c.under × (x ≡ c.index)

  -- the number is that of a later copy among the instructions
  abbrev pub LaterSound : ℕ → List Instr → ℕ → Type 0
  LaterSound a instrs k = (k < length instrs) × (is_copy a instrs k ≡ true)

  pub record Sound (instrs : List Instr) (next : ℕ) (fs gs : List Operand) (cs : List (Option (Copy Operand))) (ls : List (List ℕ)) : Type 0 where
    pub fit : instrs_fit arrays (header_slots header) instrs ≡ true
    pub ends : length (slots instrs).words ≡ next
    pub fields : (k : ℕ) → is_written (slots instrs) (operand_at fs k) ≡ true
    pub guards : Each (GuardSound (slots instrs)) gs
    pub copies : (a : ℕ) → CopySound (slots instrs) (events a instrs) (index_operand instrs a) (get_or cs a None)
    pub later : (a : ℕ) → Each (LaterSound a instrs) (get_or ls a [])
    pub ascending : (a : ℕ) → ascends 0 (get_or ls a []) ≡ true
    pub many : length cs ≡ arrays
    pub lists : length ls ≡ arrays
    pub wide : length fs ≡ header

  -- ---- instructions come behind

  pub guard_grows : (instrs xs : List Instr) (x : Operand) → GuardSound (slots instrs) x → GuardSound (slots (instrs ++ xs)) x
  guard_grows instrs xs x h = subst (λ w. GuardSound w x) (sym (after_join (header_slots header) instrs xs)) (kept_guard (slots instrs) xs x h.0, kept (slots instrs) xs x h.1)

  pub word_grows : (instrs xs : List Instr) (x : Operand) → is_written (slots instrs) x ≡ true → is_written (slots (instrs ++ xs)) x ≡ true
  word_grows instrs xs x h = ap (λ w. is_written w x) (after_join (header_slots header) instrs xs) ∙ kept (slots instrs) xs x h

  copy_grows : (instrs xs : List Instr) (a : ℕ) (c : Option (Copy Operand)) → events a xs ≡ [] → CopySound (slots instrs) (events a instrs) (index_operand instrs a) c → CopySound (slots (instrs ++ xs)) (events a (instrs ++ xs)) (index_operand (instrs ++ xs) a) c
  copy_grows instrs xs a None quiet h = events_join a instrs xs ∙ (λ i. h i ++ quiet i)
  copy_grows instrs xs a (Some c) quiet h = (
    events_join a instrs xs ∙ (λ i. h.0 i ++ quiet i),
    word_grows instrs xs c.latest h.1,
    h.2,
    each_as (GuardSound (slots instrs)) (GuardSound (slots (instrs ++ xs))) (guard_grows instrs xs) c.under h.3,
    operand_within instrs xs a (Loads ∷ []) h.0 ∙ h.4,
  )

  later_grows : (a : ℕ) (instrs xs : List Instr) (k : ℕ) → LaterSound a instrs k → LaterSound a (instrs ++ xs) k
  later_grows a instrs xs k h = (
    omega (arith, h.0, length-append instrs xs),
    (λ i. makes_copy (get_or_append_left instrs xs (instr.Load 0) k h.0 i) && is_loaded (events a (take-append-le k instrs xs (omega (arith, h.0)) i))) ∙ h.1,
  )

  -- what holds of the arrays' copies behind the instructions is given
  grows_with : (instrs xs : List Instr) (next after : ℕ) (fs gs : List Operand) (cs new : List (Option (Copy Operand))) (ls : List (List ℕ)) → Sound instrs next fs gs cs ls
      → instrs_fit arrays (slots instrs) xs ≡ true → after ≡ next + length xs → length new ≡ arrays
      → ((a : ℕ) → CopySound (slots (instrs ++ xs)) (events a (instrs ++ xs)) (index_operand (instrs ++ xs) a) (get_or new a None))
      → Sound (instrs ++ xs) after fs gs new ls
  grows_with instrs xs next after fs gs cs new ls h fit long many copies = record {
    fit = fit_join arrays (header_slots header) instrs xs h.fit fit;
    ends = ap (λ w. length w.words) (after_join (header_slots header) instrs xs) ∙ omega (arith, after_length (slots instrs) xs, h.ends, long);
    fields = λ k. word_grows instrs xs (operand_at fs k) (h.fields k);
    guards = each_as (GuardSound (slots instrs)) (GuardSound (slots (instrs ++ xs))) (guard_grows instrs xs) gs h.guards;
    copies = copies;
    later = λ a. each_as (LaterSound a instrs) (LaterSound a (instrs ++ xs)) (later_grows a instrs xs) (get_or ls a []) (h.later a);
    ascending = h.ascending;
    many = many;
    lists = h.lists;
    wide = h.wide;
  }

  -- instructions that touch no array
  pub grows : (instrs xs : List Instr) (next after : ℕ) (fs gs : List Operand) (cs : List (Option (Copy Operand))) (ls : List (List ℕ)) → Sound instrs next fs gs cs ls
      → instrs_fit arrays (slots instrs) xs ≡ true → after ≡ next + length xs → ((a : ℕ) → events a xs ≡ [])
      → Sound (instrs ++ xs) after fs gs cs ls
  grows instrs xs next after fs gs cs ls h fit long quiet = grows_with instrs xs next after fs gs cs cs ls h fit long h.many
      (λ a. copy_grows instrs xs a (get_or cs a None) (quiet a) (h.copies a))

  -- ---- a field has another value

  pub sets_field : (instrs : List Instr) (next : ℕ) (fs gs : List Operand) (cs : List (Option (Copy Operand))) (ls : List (List ℕ)) (k : ℕ) (x : Operand) → Sound instrs next fs gs cs ls
      → is_written (slots instrs) x ≡ true → Sound instrs next (slice_set fs k x) gs cs ls
  sets_field instrs next fs gs cs ls k x h written = record {
    fit = h.fit;
    ends = h.ends;
    guards = h.guards;
    copies = h.copies;
    later = h.later;
    ascending = h.ascending;
    many = h.many;
    lists = h.lists;
    wide = length-set fs k x ∙ h.wide;
    fields = set_any (λ j y. is_written (slots instrs) y ≡ true) (operand.Number (pos 0)) fs k x h.fields written;
  }

  -- ---- two more guards

  pub adds_guards : (instrs : List Instr) (next : ℕ) (fs gs : List Operand) (cs : List (Option (Copy Operand))) (ls : List (List ℕ)) (x y : Operand) → Sound instrs next fs gs cs ls
      → GuardSound (slots instrs) x → GuardSound (slots instrs) y → Sound instrs next fs (gs ++ x ∷ y ∷ []) cs ls
  adds_guards instrs next fs gs cs ls x y h one two = record {
    fit = h.fit;
    ends = h.ends;
    fields = h.fields;
    copies = h.copies;
    later = h.later;
    ascending = h.ascending;
    many = h.many;
    lists = h.lists;
    wide = h.wide;
    guards = each_join (GuardSound (slots instrs)) gs (x ∷ y ∷ []) h.guards (one, (two, tt));
  }

  -- ---- an array is touched

  -- once more
  pub touches_again : (instrs : List Instr) (next : ℕ) (fs gs : List Operand) (cs : List (Option (Copy Operand))) (ls : List (List ℕ)) (a : ℕ) (c : Copy Operand) (x : Operand) → Sound instrs next fs gs cs ls
      → get_or cs a None ≡ Some c → GuardSound (slots instrs) x
      → Sound instrs next fs gs (slice_set cs a (Some (record { index = c.index; latest = c.latest; under = c.under ++ x ∷ []; stored = c.stored }))) ls
  touches_again instrs next fs gs cs ls a c x h is guard =
      let old = subst (CopySound (slots instrs) (events a instrs) (index_operand instrs a)) is (h.copies a) in
      record {
        fit = h.fit;
        ends = h.ends;
        fields = h.fields;
        guards = h.guards;
        later = h.later;
        ascending = h.ascending;
        lists = h.lists;
        wide = h.wide;
        many = length-set cs a _ ∙ h.many;
        copies = set_any (λ b. CopySound (slots instrs) (events b instrs) (index_operand instrs b)) None cs a _ h.copies (old.0, old.1, some_more c.under, each_join (GuardSound (slots instrs)) c.under (x ∷ []) old.3 (guard, tt), old.4);
      } where
        some_more : (l : List Operand) → is_some (l ++ x ∷ []) ≡ true
        some_more [] = refl
        some_more (y ∷ l) = refl

  -- for the first time, by instructions that index and load it
  pub touches_first : (instrs xs : List Instr) (next after : ℕ) (fs gs : List Operand) (cs : List (Option (Copy Operand))) (ls : List (List ℕ)) (a : ℕ) (c : Copy Operand) → Sound instrs next fs gs cs ls
      → a < arrays → get_or cs a None ≡ None → instrs_fit arrays (slots instrs) xs ≡ true → after ≡ next + length xs
      → events a xs ≡ Indexes ∷ Loads ∷ [] → ((b : ℕ) → b ≢ a → events b xs ≡ [])
      → is_written (slots (instrs ++ xs)) c.latest ≡ true → is_some c.under ≡ true → Each (GuardSound (slots instrs)) c.under
      → index_operand xs a ≡ c.index → Sound (instrs ++ xs) after fs gs (slice_set cs a (Some c)) ls
  touches_first instrs xs next after fs gs cs ls a c h there new fit long here other latest some under index =
      let none : events a instrs ≡ [] = subst (CopySound (slots instrs) (events a instrs) (index_operand instrs a)) new (h.copies a) in
      grows_with instrs xs next after fs gs cs (slice_set cs a (Some c)) ls h fit long (length-set cs a (Some c) ∙ h.many)
      (set_at (λ b. CopySound (slots (instrs ++ xs)) (events b (instrs ++ xs)) (index_operand (instrs ++ xs) b)) None cs a (Some c) (omega (arith, there, h.many))
      (λ b apart. copy_grows instrs xs b (get_or cs b None) (other b apart) (h.copies b))
      (events_join a instrs xs ∙ (λ i. none i ++ here i), latest, some, each_as (GuardSound (slots instrs)) (GuardSound (slots (instrs ++ xs))) (guard_grows instrs xs) c.under under, operand_behind instrs xs a none ∙ index))

  -- ---- an array has another copy, which the last instruction makes

  pub sets_copy : (instrs xs : List Instr) (i : Instr) (next after : ℕ) (fs gs : List Operand) (cs : List (Option (Copy Operand))) (ls : List (List ℕ)) (a n : ℕ) (c : Copy Operand) (x y : Operand) → Sound instrs next fs gs cs ls
      → a < arrays → get_or cs a None ≡ Some c → instrs_fit arrays (slots instrs) (xs ++ i ∷ []) ≡ true → after ≡ next + length (xs ++ i ∷ [])
      → ((b : ℕ) → events b xs ≡ []) → ((b : ℕ) → events b (i ∷ []) ≡ []) → makes_copy i ≡ true → n ≡ length (instrs ++ xs)
      → is_written (slots (instrs ++ (xs ++ i ∷ []))) x ≡ true
      → Sound (instrs ++ (xs ++ i ∷ [])) after fs gs (slice_set cs a (Some (record { index = c.index; latest = x; under = c.under; stored = c.stored ++ y ∷ [] }))) (slice_set ls a (get_or ls a [] ++ n ∷ []))
  sets_copy instrs xs i next after fs gs cs ls a n c x y h there is fit long quiet silent does number written =
      let all : List Instr = instrs ++ (xs ++ i ∷ []) in
      let g = grows instrs (xs ++ i ∷ []) next after fs gs cs ls h fit long (λ b. events_join b xs (i ∷ []) ∙ (λ j. quiet b j ++ silent b j)) in
      let old = subst (CopySound (slots all) (events a all) (index_operand all a)) is (g.copies a) in
      let before = subst (CopySound (slots instrs) (events a instrs) (index_operand instrs a)) is (h.copies a) in
      let seam : all ≡ (instrs ++ xs) ++ i ∷ [] = sym (append_assoc instrs xs (i ∷ [])) in
      let here : instr_at all n ≡ i = (λ j. get_or (seam j) (number j) (instr.Load 0)) ∙ get_or-append_seam (instrs ++ xs) i [] (instr.Load 0) in
      let first : take n all ≡ instrs ++ xs = (λ j. take (number j) (seam j)) ∙ take-append_seam (instrs ++ xs) (i ∷ []) in
      let loaded : events a (take n all) ≡ Indexes ∷ Loads ∷ [] = ap (events a) first ∙ events_join a instrs xs ∙ (λ j. before.0 j ++ quiet a j) in
      let last : LaterSound a all n = (omega (arith, number, length-append (instrs ++ xs) (i ∷ []), ap length seam), and_both (makes_copy (instr_at all n)) (is_loaded (events a (take n all))) (ap makes_copy here ∙ does) (ap is_loaded loaded)) in
      record {
        fit = g.fit;
        ends = g.ends;
        fields = g.fields;
        guards = g.guards;
        wide = g.wide;
        many = length-set cs a _ ∙ h.many;
        lists = length-set ls a _ ∙ h.lists;
        copies = set_any (λ b. CopySound (slots all) (events b all) (index_operand all b)) None cs a _ g.copies (old.0, written, old.2, old.3, old.4);
        later = set_any (λ b. Each (LaterSound b all)) [] ls a _ g.later (each_join (LaterSound a all) (get_or ls a []) (n ∷ []) (g.later a) (last, tt));
        ascending = set_any (λ b ks. ascends 0 ks ≡ true) [] ls a _ g.ascending
            (ascends_last 0 n (get_or ls a []) (omega arith) (each_as (LaterSound a instrs) (λ m. m < n) (λ m l. omega (arith, l.0, number, length-append instrs xs)) (get_or ls a []) (h.later a)) (h.ascending a));
      }
