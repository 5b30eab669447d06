-- Flat code of valid guarded code ends as the lines do, and arrays with the same index have the same index word.
use Rattle.std.proofs.Common.{◌≡◌, ◌≢◌, ℕ, zero, suc, ◌+◌, ◌<◌, nat_lt, ℤ, Bool, true, false, if◌then◌else◌, List, [], ◌∷◌, ◌++◌, length, map, get_or, Option, None, Some, refl, sym, ap, subst, ◌∙◌, inl, inr, arith}
use Rattle.std.specs.List.{list_all}
use Rattle.std.proofs.Math.ListN.{get_or-map}
use Rattle.std.proofs.lemmas.Bool.Decides.{Decides-eqb, eqb_tells, nat_tests}
use Rattle.code_forms.specs.declared.guard.GuardExpr.{GuardExpr}
use Rattle.code_forms.specs.declared.guard.GuardLine.{GuardLine}
use Rattle.code_forms.specs.declared.guard.GuardLine.TheVariants as line
use Rattle.code_forms.specs.declared.guard.ArrayShape.{ArrayShape}
use Rattle.code_forms.specs.declared.flat.Operand.{Operand}
use Rattle.code_forms.specs.declared.flat.Instr.{Instr}
use Rattle.code_forms.specs.declared.flat.Instr.TheVariants as instr
use Rattle.code_forms.specs.declared.flat.FlatArray.{FlatArray}
use Rattle.mp5_words.specs.Domain.{Domain, Loads as Loaded, words as words_of}
use Rattle.mp5_words.specs.Copies.{Copy}
use Rattle.code_forms.specs.GuardValid.{arrays_in, line_fits, no_marks, is_guard_code}
use Rattle.code_forms.specs.GuardMeaning.{index_at, index_value, indexes_of, Guarded, guard_lines, guard_start}
use Rattle.code_forms.specs.FlatValid.{Event, Indexes, Loads, Stores, events, event_of, is_some, is_touched}
use Rattle.code_forms.specs.FlatMeaning.{operand_value, flat_values, flat_length, index_slot, index_operand}
use Rattle.code_forms.specs.SameIndexes.{same_of, SameWords}
use Rattle.code_forms.proofs.EachLemmas.{Each}
use Rattle.code_forms.proofs.ValidLemmas.{and_front, and_back}
use Rattle.code_forms.proofs.BelowLemmas.{arrays_below}
use Rattle.code_forms.proofs.FitLemmas.{store_here}
use Rattle.code_forms.proofs.FlatLemmas.{InOrder}
use Rattle.code_forms.proofs.OrderLemmas.{operand_within, in_order, Lives}
use Rattle.ssa_flatten.specs.Flattening.{Sofar, flat_steps, flat_instrs}
use Rattle.ssa_flatten.specs.Flattened.{under_of, IsLeast, AreFlat, store_operand, EndsAs, MeansLines}
use Rattle.ssa_flatten.proofs.FlatLines.{Stands, stood}
use Rattle.ssa_flatten.proofs.StepsLemmas.{ArrayBelow}
use Rattle.ssa_flatten.proofs.Outcome.{outcome, steps_back, store_instrs}
use Rattle.ssa_flatten.proofs.Sound.{CopySound, slots}
use Rattle.ssa_flatten.proofs.IndexStays.{IndexNow, lines_now, none_now}
use Rattle.ssa_flatten.proofs.Whole as whole
use Rattle.ssa_flatten.proofs.Valid.{many, untouched_without}

-- ---- what a Store writes

-- an instruction that isn't the array's Store
store_past : (i : Instr) (xs : List Instr) (a : ℕ) → ((x : Operand) → i ≢ instr.Store a x) → store_operand (i ∷ xs) a ≡ store_operand xs a
store_past (instr.Store b x) xs a other = elim (eqb_tells b a) [
  | inl same ↦ absurd (other x (ap (λ n. instr.Store n x) same.1))
  | inr apart ↦ ap (λ (t : Bool). if t then x else store_operand xs a) apart.0
]
store_past (instr.One op x) xs a other = refl
store_past (instr.Two op x y) xs a other = refl
store_past (instr.Pick c x y) xs a other = refl
store_past (instr.Hash kind x y z) xs a other = refl
store_past (instr.Move x) xs a other = refl
store_past (instr.Yes g c) xs a other = refl
store_past (instr.No g c) xs a other = refl
store_past (instr.Index b x) xs a other = refl
store_past (instr.Load b) xs a other = refl

-- no Store of the array is among these events
abbrev Unstored : List Event → Type 0
Unstored [] = Unit {0}
Unstored (Indexes ∷ es) = Unstored es
Unstored (Loads ∷ es) = Unstored es
Unstored (Stores ∷ es) = ⊥

unstored_back : (es fs : List Event) → Unstored (es ++ fs) → Unstored fs
unstored_back [] fs h = h
unstored_back (Indexes ∷ es) fs h = unstored_back es fs h
unstored_back (Loads ∷ es) fs h = unstored_back es fs h
unstored_back (Stores ∷ es) fs h = elim h [ ]

store_behind : (xs ys : List Instr) (a : ℕ) → Unstored (events a xs) → store_operand (xs ++ ys) a ≡ store_operand ys a
store_behind [] ys a none = refl
store_behind (x ∷ xs) ys a none =
    store_past x (xs ++ ys) a (λ y e. first y (subst (λ i. Unstored (event_of a i ++ events a xs)) e none)) ∙ store_behind xs ys a (unstored_back (event_of a x) (events a xs) none) where
      first : (y : Operand) → Unstored (event_of a (instr.Store a y) ++ events a xs) → ⊥
      first y h = subst (λ l. Unstored (l ++ events a xs)) (store_here a y) h

-- the stores write the latest copies
store_at : (a j : ℕ) (copies : List (Option (Copy Operand))) (c : Copy Operand) → get_or copies j None ≡ Some c → store_operand (store_instrs a copies) (a + j) ≡ c.latest
store_at a j [] c is = absurd cc
store_at a zero (None ∷ copies) c is = absurd cc
store_at a (suc j) (None ∷ copies) c is = subst (λ n. store_operand (store_instrs (suc a) copies) n ≡ c.latest) (omega arith) (store_at (suc a) j copies c is)
store_at a zero (Some d ∷ copies) c is =
    ap (λ (t : Bool). if t then d.latest else store_operand (store_instrs (suc a) copies) (a + 0)) ((Decides-eqb a (a + 0)).1 (omega arith))
    ∙ ap latest_in (some_is is) where
      some_is : Some d ≡ Some c → d ≡ c
      some_is e = cc

      latest_in : Copy Operand → Operand
      latest_in x = x.latest
store_at a (suc j) (Some d ∷ copies) c is =
    store_past (instr.Store a d.latest) (store_instrs (suc a) copies) (a + suc j) (λ x e. not_same x e)
    ∙ subst (λ n. store_operand (store_instrs (suc a) copies) n ≡ c.latest) (omega arith) (store_at (suc a) j copies c is) where
      not_same : (x : Operand) → instr.Store a d.latest ≡ instr.Store (a + suc j) x → ⊥
      not_same x e = let n : a ≡ a + suc j = cc in absurd (omega (arith, n))

-- ---- lists

map_map : {X Y Z : Type 0} (f : Y → Z) (g : X → Y) (xs : List X) → map (λ (x : X). f (g x)) xs ≡ map f (map g xs)
map_map f g [] = refl
map_map f g (x ∷ xs) = ap (λ l. f (g x) ∷ l) (map_map f g xs)

unders : {V : Type 0} (value : Operand → V) (copies : List (Option (Copy Operand))) → map (map value) (map under_of copies) ≡ map under_of (map (stood value) copies)
unders value [] = refl
unders value (None ∷ copies) = ap (λ l. [] ∷ l) (unders value copies)
unders value (Some c ∷ copies) = ap (λ l. map value c.under ∷ l) (unders value copies)

-- an array that stands in a list of none
none_in : (l : List ℕ) → Each (λ a. a < 0) l → l ≡ []
none_in [] all = refl
none_in (a ∷ l) all = absurd (omega (arith, all.0))

module _ (header : ℕ) (shapes : List ArrayShape) (lines : List GuardLine) (valid : is_guard_code header shapes lines ≡ true)
    (arrays : List FlatArray) (flat : AreFlat header shapes lines arrays) where
  abbrev instrs : List Instr
  instrs = flat_instrs header shapes lines

  abbrev done : Sofar
  done = whole.done header shapes lines valid

  plain : (a : ℕ) (index : GuardExpr) → index_at shapes a ≡ Some index → arrays_in index ≡ []
  plain a index is = none_in (arrays_in index) (arrays_below header 0 index (whole.indexes_fit header shapes lines valid a index is))

  targets : (lines : List GuardLine) → list_all (line_fits header (length shapes)) lines ≡ true → Each (ArrayBelow shapes header (length shapes)) lines
  targets [] fit = tt
  targets (line.Test cond under first second ∷ lines) fit = (tt, targets lines (and_back (line_fits header (length shapes) (line.Test cond under first second)) _ fit))
  targets (line.SetField f k value ∷ lines) fit = (tt, targets lines (and_back (line_fits header (length shapes) (line.SetField f k value)) _ fit))
  targets (line.SetCell a k value ∷ lines) fit = (below (and_front (nat_lt a (length shapes)) _ (and_front (line_fits header (length shapes) (line.SetCell a k value)) _ fit)), targets lines (and_back (line_fits header (length shapes) (line.SetCell a k value)) _ fit)) where
    below : nat_lt a (length shapes) ≡ true → a < length shapes
    below e = grind (arith, nat_tests, e)

  pub there : Each (ArrayBelow shapes header (length shapes)) lines
  there = targets lines (whole.lines_fit header shapes lines valid)

  lives : Lives (length shapes) instrs
  lives a less = (is_some (under_of (get_or done.copies a None)), whole.life header shapes lines valid a)

  -- each step uses what is written before it
  pub order : InOrder (index_slot instrs header) header (flat_steps header shapes lines)
  order = subst (InOrder (index_slot instrs header) header) (steps_back header shapes lines there arrays flat.copies)
      (in_order header (length shapes) instrs lives (map (λ (f : FlatArray). f.copies) arrays) (whole.fit header shapes lines valid))

  -- ---- what is known of a loaded array

  abbrev front_sound : ℕ → Option (Copy Operand) → Type 0
  front_sound a = CopySound header (length shapes) (slots header (length shapes) (whole.front header shapes lines valid)) (events a (whole.front header shapes lines valid)) (index_operand (whole.front header shapes lines valid) a)

  pub index_is : (a : ℕ) (k : Copy Operand) → get_or done.copies a None ≡ Some k → index_operand instrs a ≡ k.index
  index_is a k is =
      let h = subst (front_sound a) is ((whole.sound header shapes lines valid).copies a) in
      ap (λ l. index_operand l a) (whole.parts header shapes lines valid)
      ∙ operand_within (whole.front header shapes lines valid) (whole.stores header shapes lines valid) a (Loads ∷ []) h.0 ∙ h.4

  stored_is : (a : ℕ) (k : Copy Operand) → get_or done.copies a None ≡ Some k → store_operand instrs a ≡ k.latest
  stored_is a k is =
      let h = subst (front_sound a) is ((whole.sound header shapes lines valid).copies a) in
      ap (λ l. store_operand l a) (whole.parts header shapes lines valid)
      ∙ store_behind (whole.front header shapes lines valid) (whole.stores header shapes lines valid) a (subst Unstored (sym h.0) tt)
      ∙ subst (λ n. store_operand (store_instrs 0 done.copies) n ≡ k.latest) (omega arith) (store_at 0 a done.copies k is)

  module _ (V : Type 0) (d : Domain V) (words : List V) (long : length words ≡ header) where
    abbrev value : Operand → V
    value = operand_value V d (flat_values V d header arrays instrs words)

    abbrev ended : Guarded V
    ended = guard_lines V d (indexes_of V d.ops shapes) lines (guard_start V d (length shapes) words)

    pub stands : Stands V value done ended
    stands = outcome header shapes lines V d arrays words long plain there flat.copies order

    -- what the lines know of a touched array is what its operands stand for
    known : (a : ℕ) → stood value (get_or done.copies a None) ≡ get_or ended.copies a None
    known a = sym (get_or-map (stood value) done.copies a None) ∙ ap (λ l. get_or l a None) stands.copies

    by_copy : (a : ℕ) (c : Copy V) (k : Option (Copy Operand)) → get_or done.copies a None ≡ k → stood value k ≡ Some c → (value (index_operand instrs a) ≡ c.index) × (value (store_operand instrs a) ≡ c.latest)
    by_copy a c None is e = absurd cc
    by_copy a c (Some k) is e =
        let same : record { index = value k.index; latest = value k.latest; under = map value k.under; stored = map value k.stored } ≡ c = some_is e in
        (ap value (index_is a k is) ∙ ap (λ (x : Copy V). x.index) same, ap value (stored_is a k is) ∙ ap (λ (x : Copy V). x.latest) same) where
          some_is : {x y : Copy V} → Some x ≡ Some y → x ≡ y
          some_is e = cc

    pub ends_as : EndsAs V value arrays instrs done.fields ended
    ends_as = record {
      fields = stands.fields;
      touched = map_map (map value) (λ (f : FlatArray). f.touched) arrays ∙ ap (map (map value)) flat.touched ∙ unders value done.copies ∙ ap (map under_of) stands.copies;
      index = λ a c is. (by_copy a c (get_or done.copies a None) refl (known a ∙ is)).0;
      stored = λ a c is. (by_copy a c (get_or done.copies a None) refl (known a ∙ is)).1;
    }

    -- a touched array's index word is its index on the lines' fields
    index_now : (a : ℕ) (c : Copy V) → get_or ended.copies a None ≡ Some c → c.index ≡ index_value V d.ops (index_at shapes a) ended.fields
    index_now a c is =
        let now = lines_now V d header shapes lines (no_marks shapes) (guard_start V d (length shapes) words) (marks_long shapes) (whole.lines_fit header shapes lines valid) (whole.stays header shapes lines valid) (λ b. none_now V d header shapes (length shapes) b (no_marks shapes) words) in
        (subst (IndexNow V d header shapes ended.fields now.0 a) is (now.1 a)).1 where
          marks_long : (shapes : List ArrayShape) → length (no_marks shapes) ≡ length shapes
          marks_long [] = refl
          marks_long (s ∷ shapes) = ap suc (marks_long shapes)

    -- a touched array is known to the lines
    known_one : (a : ℕ) (k : Option (Copy Operand)) → get_or done.copies a None ≡ k → is_some (under_of k) ≡ true → (c : Copy V) × (get_or ended.copies a None ≡ Some c)
    known_one a None is e = absurd cc
    known_one a (Some k) is e = (_, sym (known a) ∙ ap (stood value) is)

    pub index_word_is : (a : ℕ) → is_some (under_of (get_or done.copies a None)) ≡ true → value (index_operand instrs a) ≡ index_value V d.ops (index_at shapes a) ended.fields
    index_word_is a touched =
        let c = known_one a (get_or done.copies a None) refl touched in
        ends_as.index a c.0 c.1 ∙ index_now a c.0 c.1

  -- ---- the clauses

  pub means_lines : (V : Type 0) (d : Domain V) → MeansLines V d header shapes lines arrays instrs done.fields
  means_lines V d words long = ends_as V d words long

  -- the same of instructions and last values that are these
  pub means_at : (made : List Instr) (last : List Operand) → made ≡ instrs → last ≡ done.fields → (V : Type 0) (d : Domain V) → MeansLines V d header shapes lines arrays made last
  means_at made last are is V d =
      subst (λ l. MeansLines V d header shapes lines arrays l last) (sym are) (subst (λ l. MeansLines V d header shapes lines arrays instrs l) (sym is) (means_lines V d))

  -- ---- arrays with the same index

  touched_of : (a : ℕ) → is_touched arrays a ≡ is_some (under_of (get_or done.copies a None))
  touched_of a = ap is_some (ap (λ l. get_or l a []) flat.touched ∙ get_or-map under_of done.copies a None)

  -- a touched array is there
  touched_inside : (a : ℕ) → is_touched arrays a ≡ true → a < length shapes
  touched_inside a touched = let n : length arrays ≡ length shapes = many header shapes lines valid arrays flat in let less : a < length arrays = inside arrays a touched in omega (arith, n, less) where
    inside : (l : List FlatArray) (a : ℕ) → is_touched l a ≡ true → a < length l
    inside [] a e = absurd cc
    inside (f ∷ l) zero e = omega arith
    inside (f ∷ l) (suc a) e = omega (arith, inside l a e)

  -- the index of a touched array is that of the array that stands for it
  index_of_same : (a : ℕ) → is_touched arrays a ≡ true → index_at shapes a ≡ index_at shapes (same_of arrays a)
  index_of_same a touched = by_index (index_at shapes a) refl (flat.sames a (touched_inside a touched)) where
    by_index : (o : Option GuardExpr) → index_at shapes a ≡ o → IsLeast shapes a (same_of arrays a) o → index_at shapes a ≡ index_at shapes (same_of arrays a)
    by_index None is least = absurd (no_way (sym (touched_of a ∙ untouched_without header shapes lines valid arrays flat a (touched_inside a touched) is) ∙ touched)) where
      no_way : false ≡ true → ⊥
      no_way e = cc
    by_index (Some x) is least = is ∙ sym least.1

  -- the words, with these words loaded
  abbrev domain : Loaded → Domain ℤ
  domain loads = words_of (flat_length arrays) loads

  pub same_words : SameWords header arrays instrs
  same_words loads words long a b ta tb same =
      index_word_is ℤ (domain loads) words long a (sym (touched_of a) ∙ ta)
      ∙ ap (λ o. index_value ℤ (domain loads).ops o (ended ℤ (domain loads) words long).fields) (index_of_same a ta ∙ ap (index_at shapes) same ∙ sym (index_of_same b tb))
      ∙ sym (index_word_is ℤ (domain loads) words long b (sym (touched_of b) ∙ tb))
