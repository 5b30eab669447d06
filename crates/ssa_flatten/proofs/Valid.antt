-- Flat code of valid guarded code is valid.
use Rattle.std.proofs.Common.{◌≡◌, ℕ, zero, suc, ◌+◌, ◌==◌, ◌<◌, ◌≤◌, nat_le, nat_lt, pos, Bool, true, false, ◌&&◌, if◌then◌else◌, List, [], ◌∷◌, length, map, sum, get_or, Option, None, Some, refl, sym, ap, subst, ◌∙◌, arith}
use Rattle.std.specs.List.{list_all}
use Rattle.std.proofs.lemmas.List.{length-map, take-append-le, get_or_append_left}
use Rattle.std.proofs.Math.ListN.{get_or-map}
use Rattle.std.proofs.lemmas.Bool.Decides.{Decides-eqb, nat_tests}
use Rattle.code_forms.specs.declared.guard.GuardExpr.{GuardExpr}
use Rattle.code_forms.specs.declared.guard.GuardLine.{GuardLine}
use Rattle.code_forms.specs.declared.guard.ArrayShape.{ArrayShape}
use Rattle.code_forms.specs.declared.flat.Operand.{Operand}
use Rattle.code_forms.specs.declared.flat.Instr.{Instr}
use Rattle.code_forms.specs.declared.flat.Instr.TheVariants as instr
use Rattle.code_forms.specs.declared.flat.FlatArray.{FlatArray}
use Rattle.mp5_words.specs.Copies.{Copy}
use Rattle.code_forms.specs.FlatMeaning.{Step, index_operand}
use Rattle.code_forms.specs.GuardValid.{touched_in, index_fits, shapes_fit, guard_count, is_guard_code}
use Rattle.code_forms.specs.GuardMeaning.{index_at}
use Rattle.code_forms.specs.FlatValid.{Written, header_slots, instrs_fit, is_written, is_guard, events, is_life, is_some, is_loaded, makes_copy, is_copy, ascends, array_fits, arrays_fit, is_touched, same_fits, sames_fit, cells_in as flat_cells, is_limited as is_flat_limited, last_fits, is_flat_code}
use Rattle.code_forms.specs.SameIndexes.{same_of}
use Rattle.code_forms.proofs.EachLemmas.{Each}
use Rattle.code_forms.proofs.ValidLemmas.{and_front, and_back, and_both}
use Rattle.ssa_flatten.specs.Flattening.{operand_at, flat_steps, flat_instrs}
use Rattle.ssa_flatten.specs.Flattened.{under_of, IsLeast, AreFlat}
use Rattle.ssa_flatten.proofs.Sound.{each_as, CopySound, GuardSound, LaterSound, slots}
use Rattle.ssa_flatten.proofs.CountLines.{some}
use Rattle.ssa_flatten.proofs.Whole as whole

-- ---- lists

each_all : {X : Type 0} (p : X → Bool) (xs : List X) → Each (λ x. p x ≡ true) xs → list_all p xs ≡ true
each_all p [] all = refl
each_all p (x ∷ xs) all = and_both (p x) (list_all p xs) all.0 (each_all p xs all.1)

all_written : (w : Written) (xs : List Operand) → ((k : ℕ) → is_written w (operand_at xs k) ≡ true) → list_all (is_written w) xs ≡ true
all_written w [] all = refl
all_written w (x ∷ xs) all = and_both (is_written w x) (list_all (is_written w) xs) (all 0) (all_written w xs (λ k. all (suc k)))

-- ---- arrays one after another

abbrev no_array : FlatArray
no_array = record { length = 0; start = pos 0; same = 0; touched = []; copies = [] }

abbrev array_at : List FlatArray → ℕ → FlatArray
array_at arrays a = get_or arrays a no_array

all_fit : (instrs : List Instr) (w : Written) (a : ℕ) (arrays : List FlatArray) → ((j : ℕ) → j < length arrays → array_fits instrs w (a + j) (array_at arrays j) ≡ true) → arrays_fit instrs w a arrays ≡ true
all_fit instrs w a [] each = refl
all_fit instrs w a (f ∷ arrays) each =
    and_both (array_fits instrs w a f) (arrays_fit instrs w (suc a) arrays)
    (subst (λ n. array_fits instrs w n f ≡ true) (omega arith) (each 0 (omega arith)))
    (all_fit instrs w (suc a) arrays (λ j less. subst (λ n. array_fits instrs w n (array_at arrays j) ≡ true) (omega arith) (each (suc j) (omega (arith, less)))))

all_same : (whole : List FlatArray) (a : ℕ) (arrays : List FlatArray) → ((j : ℕ) → j < length arrays → same_fits whole (a + j) (array_at arrays j) ≡ true) → sames_fit whole a arrays ≡ true
all_same whole a [] each = refl
all_same whole a (f ∷ arrays) each =
    and_both (same_fits whole a f) (sames_fit whole (suc a) arrays)
    (subst (λ n. same_fits whole n f ≡ true) (omega arith) (each 0 (omega arith)))
    (all_same whole (suc a) arrays (λ j less. subst (λ n. same_fits whole n (array_at arrays j) ≡ true) (omega arith) (each (suc j) (omega (arith, less)))))

same_inside : (l : List FlatArray) (k d : ℕ) → k < length l → get_or (map (λ (f : FlatArray). f.same) l) k d ≡ (array_at l k).same
same_inside [] k d within = absurd (omega arith)
same_inside (f ∷ l) zero d within = refl
same_inside (f ∷ l) (suc k) d within = same_inside l k d (omega (arith, within))

-- the length of a shape that fits
shape_length : (fields : ℕ) (marks : List Bool) (shapes : List ArrayShape) (a : ℕ) → shapes_fit fields marks shapes ≡ true → a < length shapes
    → (nat_lt 0 (get_or (map (λ (s : ArrayShape). s.length) shapes) a 0) ≡ true) × (nat_le (get_or (map (λ (s : ArrayShape). s.length) shapes) a 0) 65536 ≡ true)
shape_length fields marks [] a fit less = absurd (omega arith)
shape_length fields [] (s ∷ shapes) a fit less = absurd cc
shape_length fields (m ∷ marks) (s ∷ shapes) zero fit less = (and_front (nat_lt 0 s.length) _ fit, and_front (nat_le s.length 65536) _ (and_back (nat_lt 0 s.length) _ fit))
shape_length fields (m ∷ marks) (s ∷ shapes) (suc a) fit less = shape_length fields marks shapes a (and_back (index_fits fields m s.index) _ (and_back (nat_le s.length 65536) _ (and_back (nat_lt 0 s.length) _ fit))) (omega (arith, less))

-- whether an array has an index is its mark
index_marked : (fields : ℕ) (marks : List Bool) (shapes : List ArrayShape) (a : ℕ) (o : Option GuardExpr) → shapes_fit fields marks shapes ≡ true → index_at shapes a ≡ o → a < length shapes
    → index_fits fields (get_or marks a false) o ≡ true
index_marked fields marks [] a o fit is less = absurd (omega arith)
index_marked fields [] (s ∷ shapes) a o fit is less = absurd cc
index_marked fields (m ∷ marks) (s ∷ shapes) zero o fit is less = ap (index_fits fields m) (sym is) ∙ and_front (index_fits fields m s.index) _ (and_back (nat_le s.length 65536) _ (and_back (nat_lt 0 s.length) _ fit))
index_marked fields (m ∷ marks) (s ∷ shapes) (suc a) o fit is less = index_marked fields marks shapes a o (and_back (index_fits fields m s.index) _ (and_back (nat_le s.length 65536) _ (and_back (nat_lt 0 s.length) _ fit))) is (omega (arith, less))

module _ (header : ℕ) (shapes : List ArrayShape) (lines : List GuardLine) (valid : is_guard_code header shapes lines ≡ true)
    (arrays : List FlatArray) (flat : AreFlat header shapes lines arrays) where
  abbrev instrs : List Instr
  instrs = flat_instrs header shapes lines

  abbrev copy_of : ℕ → Option (Copy Operand)
  copy_of a = get_or (whole.done header shapes lines valid).copies a None

  pub many : length arrays ≡ length shapes
  many = sym (length-map arrays (λ (f : FlatArray). f.length)) ∙ ap length flat.lengths ∙ length-map shapes (λ (s : ArrayShape). s.length)

  pub touched_is : (a : ℕ) → (array_at arrays a).touched ≡ under_of (copy_of a)
  touched_is a = sym (get_or-map (λ (f : FlatArray). f.touched) arrays a no_array) ∙ ap (λ l. get_or l a []) flat.touched ∙ get_or-map under_of (whole.done header shapes lines valid).copies a None

  copies_are : (a : ℕ) → (array_at arrays a).copies ≡ get_or (whole.done header shapes lines valid).later a []
  copies_are a = sym (get_or-map (λ (f : FlatArray). f.copies) arrays a no_array) ∙ ap (λ l. get_or l a []) flat.copies

  length_is : (a : ℕ) → (array_at arrays a).length ≡ get_or (map (λ (s : ArrayShape). s.length) shapes) a 0
  length_is a = sym (get_or-map (λ (f : FlatArray). f.length) arrays a no_array) ∙ ap (λ l. get_or l a 0) flat.lengths

  -- a later copy stays one behind the stores
  copy_stays : (a k : ℕ) → LaterSound header (length shapes) a (whole.front header shapes lines valid) k → is_copy a instrs k ≡ true
  copy_stays a k h =
      ap (λ l. is_copy a l k) (whole.parts header shapes lines valid)
      ∙ (λ i. makes_copy (get_or_append_left (whole.front header shapes lines valid) (whole.stores header shapes lines valid) (instr.Load 0) k h.0 i) && is_loaded (events a (take-append-le k (whole.front header shapes lines valid) (whole.stores header shapes lines valid) (omega (arith, h.0)) i)))
      ∙ h.1

  guards_fit_all : (c : Option (Copy Operand)) (a : ℕ) → copy_of a ≡ c → list_all (is_guard (whole.all_slots header shapes lines valid)) (under_of c) ≡ true
  guards_fit_all None a is = refl
  guards_fit_all (Some c) a is =
      let h = subst (CopySound header (length shapes) (slots header (length shapes) (whole.front header shapes lines valid)) (events a (whole.front header shapes lines valid)) _) is ((whole.sound header shapes lines valid).copies a) in
      each_all (is_guard (whole.all_slots header shapes lines valid)) c.under (each_as (GuardSound header (length shapes) (slots header (length shapes) (whole.front header shapes lines valid))) (λ x. is_guard (whole.all_slots header shapes lines valid) x ≡ true) (whole.guard_stays header shapes lines valid) c.under h.3)

  one_fits : (a : ℕ) → a < length arrays → array_fits instrs (whole.all_slots header shapes lines valid) a (array_at arrays a) ≡ true
  one_fits a less =
      let w : Written = whole.all_slots header shapes lines valid in
      let f : FlatArray = array_at arrays a in
      let s = shape_length header _ shapes a (whole.behind_limits header shapes lines valid) (omega (arith, less, many)) in
      and_both (nat_lt 0 f.length) _ (ap (nat_lt 0) (length_is a) ∙ s.0)
      (and_both (nat_le f.length 65536) _ (ap (λ n. nat_le n 65536) (length_is a) ∙ s.1)
      (and_both (is_life (is_some f.touched) (events a instrs)) _ (ap (λ l. is_life (is_some l) (events a instrs)) (touched_is a) ∙ whole.life header shapes lines valid a)
      (and_both (list_all (is_guard w) f.touched) _ (ap (list_all (is_guard w)) (touched_is a) ∙ guards_fit_all (copy_of a) a refl)
      (and_both (list_all (is_copy a instrs) f.copies) _
      (ap (list_all (is_copy a instrs)) (copies_are a) ∙ each_all (is_copy a instrs) _ (each_as (LaterSound header (length shapes) a (whole.front header shapes lines valid)) (λ k. is_copy a instrs k ≡ true) (copy_stays a) _ ((whole.sound header shapes lines valid).later a)))
      (ap (ascends 0) (copies_are a) ∙ (whole.sound header shapes lines valid).ascending a)))))

  -- ---- which array stands for all with the same index

  mark_is : (a : ℕ) → some (copy_of a) ≡ get_or (touched_in shapes lines) a false
  mark_is a = sym (get_or-map some (whole.done header shapes lines valid).copies a None) ∙ ap (λ l. get_or l a false) (whole.marks header shapes lines valid)

  -- an array with an index is touched
  pub touched_with : (a : ℕ) (x : GuardExpr) → a < length shapes → index_at shapes a ≡ Some x → is_some (under_of (copy_of a)) ≡ true
  touched_with a x less is = by_copy (copy_of a) refl where
    fit : index_fits header (some (copy_of a)) (Some x) ≡ true
    fit = ap (λ m. index_fits header m (Some x)) (mark_is a) ∙ index_marked header (touched_in shapes lines) shapes a (Some x) (whole.behind_limits header shapes lines valid) is less

    by_copy : (c : Option (Copy Operand)) → copy_of a ≡ c → is_some (under_of c) ≡ true
    by_copy None e = absurd (none (ap (λ o. index_fits header (some o) (Some x)) (sym e) ∙ fit)) where
      none : index_fits header false (Some x) ≡ true → ⊥
      none e = cc
    by_copy (Some c) e = (subst (CopySound header (length shapes) (slots header (length shapes) (whole.front header shapes lines valid)) (events a (whole.front header shapes lines valid)) (index_operand (whole.front header shapes lines valid) a)) e ((whole.sound header shapes lines valid).copies a)).2

  -- an array without one isn't
  pub untouched_without : (a : ℕ) → a < length shapes → index_at shapes a ≡ None → is_some (under_of (copy_of a)) ≡ false
  untouched_without a less is = by_copy (copy_of a) refl where
    fit : index_fits header (some (copy_of a)) None ≡ true
    fit = ap (λ m. index_fits header m None) (mark_is a) ∙ index_marked header (touched_in shapes lines) shapes a None (whole.behind_limits header shapes lines valid) is less

    by_copy : (c : Option (Copy Operand)) → copy_of a ≡ c → is_some (under_of c) ≡ false
    by_copy None e = refl
    by_copy (Some c) e = absurd (some_none (ap (λ o. index_fits header (some o) None) (sym e) ∙ fit)) where
      some_none : index_fits header true None ≡ true → ⊥
      some_none e = cc

  same_is : (a : ℕ) → a < length arrays → same_of arrays a ≡ (array_at arrays a).same
  same_is a less = same_inside arrays a a less

  one_same : (a : ℕ) → a < length arrays → same_fits arrays a (array_at arrays a) ≡ true
  one_same a less = by_index (index_at shapes a) refl (flat.sames a inside) where
    inside : a < length shapes
    inside = omega (arith, less, many)

    f : FlatArray
    f = array_at arrays a

    by_index : (o : Option GuardExpr) → index_at shapes a ≡ o → IsLeast shapes a (same_of arrays a) o → same_fits arrays a (array_at arrays a) ≡ true
    by_index None is least =
        ap (λ (t : Bool). if t then nat_le (array_at arrays a).same a && is_touched arrays (array_at arrays a).same else (array_at arrays a).same == a) (ap is_some (touched_is a) ∙ untouched_without a inside is)
        ∙ (Decides-eqb (array_at arrays a).same a).1 (sym (same_is a less) ∙ least)
    by_index (Some x) is least =
        let n : ℕ = (array_at arrays a).same in
        let e : same_of arrays a ≡ n = same_is a less in
        let low : n ≤ a = omega (arith, least.0, e) in
        ap (λ (t : Bool). if t then nat_le n a && is_touched arrays n else n == a) (ap is_some (touched_is a) ∙ touched_with a x inside is)
        ∙ and_both (nat_le n a) (is_touched arrays n) (grind (arith, nat_tests, low))
        (ap is_some (ap (λ l. get_or l n []) flat.touched ∙ get_or-map under_of (whole.done header shapes lines valid).copies n None)
        ∙ touched_with n x (omega (arith, low, inside)) (ap (index_at shapes) (sym e) ∙ least.1))

  -- ---- all of it

  limits : guard_count shapes lines ≤ 1024 → is_flat_limited header arrays instrs ≡ true
  limits short =
      let l = whole.limited header shapes lines valid in
      let inner = and_back (nat_le header 32) _ l in
      let long : length instrs ≤ 1024 = omega (arith, short, whole.counts header shapes lines valid, length-map (flat_steps header shapes lines) (λ (s : Step). s.instr)) in
      and_both (nat_le header 32) _ (and_front (nat_le header 32) _ l)
      (and_both (nat_le (length arrays) 16) _ (ap (λ n. nat_le n 16) many ∙ and_front (nat_le (length shapes) 16) _ inner)
      (and_both (nat_le (flat_cells arrays) 262144) _ (ap (λ l. nat_le (sum l) 262144) flat.lengths ∙ and_back (nat_le (length shapes) 16) _ inner)
      (grind (arith, nat_tests, long))))

  last_ones : last_fits header (whole.all_slots header shapes lines valid) (whole.done header shapes lines valid).fields ≡ true
  last_ones =
      let done = whole.done header shapes lines valid in
      let sound = whole.sound header shapes lines valid in
      and_both (length done.fields == header) _ ((Decides-eqb (length done.fields) header).1 sound.wide)
      (all_written (whole.all_slots header shapes lines valid) done.fields (λ k. whole.word_stays header shapes lines valid (operand_at done.fields k) (sound.fields k)))

  -- the flat code of code that counts at most 1,024 is valid
  pub flat_valid : guard_count shapes lines ≤ 1024 → is_flat_code header arrays instrs (whole.done header shapes lines valid).fields ≡ true
  flat_valid short =
      and_both (is_flat_limited header arrays instrs) _ (limits short)
      (and_both (instrs_fit (length arrays) (header_slots header) instrs) _ (ap (λ n. instrs_fit n (header_slots header) instrs) many ∙ whole.fit header shapes lines valid)
      (and_both (arrays_fit instrs (whole.all_slots header shapes lines valid) 0 arrays) _
      (all_fit instrs (whole.all_slots header shapes lines valid) 0 arrays (λ j less. subst (λ n. array_fits instrs (whole.all_slots header shapes lines valid) n (array_at arrays j) ≡ true) (omega arith) (one_fits j less)))
      (and_both (sames_fit arrays 0 arrays) _ (all_same arrays 0 arrays (λ j less. subst (λ n. same_fits arrays n (array_at arrays j) ≡ true) (omega arith) (one_same j less)))
      last_ones)))
