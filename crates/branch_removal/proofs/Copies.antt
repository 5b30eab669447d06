-- Over words, lines on copies do what lines on the cells do, where each array that is touched was loaded with its cell.
use Rattle.std.proofs.Common.{◌≡◌, ◌≢◌, ℕ, zero, suc, ◌<◌, ◌==◌, ℤ, pos, Bool, true, false, not, ◌&&◌, ◌||◌, if◌then◌else◌, List, [], ◌∷◌, ◌++◌, length, map, get_or, slice_set, Option, None, Some, refl, sym, ap, subst, ◌∙◌, ◌⊎◌, inl, inr, arith, get_or-set_same, get_or-set_other}
use Rattle.std.specs.List.{fold, list_any}
use Rattle.std.proofs.lemmas.List.{set-set, set-get_or, length-set, map-append}
use Rattle.std.proofs.lemmas.Bool.Decides.{eqb_tells}
use Rattle.std.proofs.Math.ListN.{get_or-map}
use Rattle.mp5_words.specs.Words.{truth, flag, cell}
use Rattle.mp5_words.specs.Cells.{word_at, cells_at}
use Rattle.mp5_words.specs.Cells.{touching}
use Rattle.domino_tree.specs.Execution.{State, touch}
use Rattle.code_forms.proofs.EachLemmas.{Each}
use Rattle.code_forms.specs.declared.guard.GuardExpr.{GuardExpr}
use Rattle.code_forms.specs.declared.guard.GuardLine.{GuardLine}
use Rattle.code_forms.specs.declared.guard.GuardLine.TheVariants as line
use Rattle.code_forms.specs.declared.guard.ArrayShape.{ArrayShape}
use Rattle.mp5_words.specs.Domain.{Domain, Loads, word_ops, words}
use Rattle.code_forms.specs.GuardValid.{arrays_in, line_arrays}
use Rattle.code_forms.specs.GuardMeaning as any
use Rattle.mp5_words.specs.Copies as held_copies
use Rattle.mp5_words.specs.Copies.{Copy}
use Rattle.code_forms.specs.GuardMeaning.{Guarded, index_at, length_at, indexes_of, line_guard}
use Rattle.code_forms.proofs.LoadLemmas.{length-touches}
use Rattle.code_forms.proofs.ValueLemmas.{value_agrees}
use Rattle.branch_removal.proofs.Direct.{guard_value, seen, Direct, on, assign_field, assign_cell, direct_line, direct_lines}

or_no : (b : Bool) → (b || false) ≡ b
or_no true = refl
or_no false = refl

any_more : (xs : List ℤ) (x : ℤ) → list_any truth (xs ++ x ∷ []) ≡ (list_any truth xs || truth x)
any_more [] x = or_no (truth x)
any_more (y ∷ ys) x = either (truth y) (list_any truth (ys ++ x ∷ [])) (list_any truth ys) (truth x) (any_more ys x) where
  either : (b c u v : Bool) → c ≡ (u || v) → (b || c) ≡ ((b || u) || v)
  either true c u v e = refl
  either false c u v e = e

flag_truth : (b : Bool) → truth (flag b) ≡ b
flag_truth true = refl
flag_truth false = refl

-- these arrays are marked where a guard is 1
abbrev pub marked : Bool → List ℕ → List Bool → List Bool
marked true bs touched = touching bs touched
marked false bs touched = touched

module _ (shapes : List ArrayShape) (loads : Loads) (cells0 : List (List ℤ)) where
  abbrev pub d : Domain ℤ
  d = words (length_at shapes) loads

  abbrev pub indexes : held_copies.Indexes ℤ
  indexes = indexes_of ℤ word_ops shapes

  -- the index word of an array, and the place that it names
  abbrev pub word_of : ℕ → List ℤ → ℤ
  word_of a fields = any.index_value ℤ word_ops (index_at shapes a) fields

  abbrev pub spot : ℕ → List ℤ → ℕ
  spot a fields = cell (word_of a fields) (length_at shapes a)

  -- an array is touched where a guard of its is 1. Then it has its latest copy in its one cell; any other is as it was,
  -- and its copy is what was loaded
  abbrev pub AtArray : ℕ → List ℤ → List ℤ → Bool → Option (Copy ℤ) → Type 0
  AtArray a fields row true None = ⊥
  AtArray a fields row true (Some c) = (c.index ≡ word_of a fields) × (list_any truth c.under ≡ true) × (row ≡ slice_set (cells_at cells0 a) (spot a fields) c.latest)
  AtArray a fields row false None = row ≡ cells_at cells0 a
  AtArray a fields row false (Some c) = (c.index ≡ word_of a fields) × (list_any truth c.under ≡ false) × (row ≡ cells_at cells0 a) × (c.latest ≡ loads a (spot a fields))

  abbrev pub Alike : List ℤ → List (List ℤ) → List Bool → List (Option (Copy ℤ)) → Type 0
  Alike fields cells touched copies = (a : ℕ) → AtArray a fields (cells_at cells a) (get_or touched a false) (get_or copies a None)

  abbrev pub RightAt : List ℤ → ℕ → Type 0
  RightAt fields a = loads a (spot a fields) ≡ word_at (cells_at cells0 a) (spot a fields)

  -- ---- an array is touched

  unchanged : (a : ℕ) (fields : List ℤ) → RightAt fields a → cells_at cells0 a ≡ slice_set (cells_at cells0 a) (spot a fields) (loads a (spot a fields))
  unchanged a fields right = sym (ap (slice_set (cells_at cells0 a) (spot a fields)) right ∙ set-get_or (cells_at cells0 a) (spot a fields) (pos 0))

  touched_at : (a : ℕ) (fields row : List ℤ) (t : Bool) (c : Option (Copy ℤ)) (v : ℤ) (b : Bool) → truth v ≡ b → (b ≡ true → RightAt fields a) → AtArray a fields row t c → AtArray a fields row (t || b) (Some (held_copies.touched ℤ d a (word_of a fields) v c))
  touched_at a fields row true None v b is right h = elim h [ ]
  touched_at a fields row true (Some c) v b is right h = (h.0, any_more c.under v ∙ ap (λ t. t || truth v) h.1, h.2)
  touched_at a fields row false None v true is right h = (refl, or_no (truth v) ∙ is, h ∙ unchanged a fields (right refl))
  touched_at a fields row false None v false is right h = (refl, or_no (truth v) ∙ is, h, refl)
  touched_at a fields row false (Some c) v true is right h = (h.0, any_more c.under v ∙ (λ i. h.1 i || is i), h.2 ∙ unchanged a fields (right refl) ∙ ap (slice_set (cells_at cells0 a) (spot a fields)) (sym h.3))
  touched_at a fields row false (Some c) v false is right h = (h.0, any_more c.under v ∙ (λ i. h.1 i || is i), h.2, h.3)

  touch_alike : (fields : List ℤ) (cells : List (List ℤ)) (touched : List Bool) (copies : List (Option (Copy ℤ))) (v : ℤ) (b : Bool) (k : ℕ) → truth v ≡ b → k < length copies → k < length touched → (b ≡ true → RightAt fields k) → Alike fields cells touched copies
      → Alike fields cells (marked b (k ∷ []) touched) (held_copies.touch ℤ d indexes fields v copies k)
  touch_alike fields cells touched copies v b k is there room right h a = by_place (eqb_tells a k) where
    new : Option (Copy ℤ)
    new = Some (held_copies.touched ℤ d k (word_of k fields) v (get_or copies k None))

    mark : (b : Bool) → get_or (marked b (k ∷ []) touched) k false ≡ (get_or touched k false || b)
    mark true = get_or-set_same touched k true false room ∙ or_true (get_or touched k false) where
      or_true : (t : Bool) → true ≡ (t || true)
      or_true true = refl
      or_true false = refl
    mark false = sym (or_no (get_or touched k false))

    apart : (b : Bool) → a ≢ k → get_or (marked b (k ∷ []) touched) a false ≡ get_or touched a false
    apart true other = get_or-set_other touched k a true false other
    apart false other = refl

    by_place : (((a == k) ≡ true) × (a ≡ k)) ⊎ (((a == k) ≡ false) × (a ≢ k)) → AtArray a fields (cells_at cells a) (get_or (marked b (k ∷ []) touched) a false) (get_or (slice_set copies k new) a None)
    by_place (inl same) =
        subst (λ j. AtArray j fields (cells_at cells j) (get_or (marked b (k ∷ []) touched) j false) (get_or (slice_set copies k new) j None)) (sym same.1)
        (subst (AtArray k fields (cells_at cells k) (get_or (marked b (k ∷ []) touched) k false)) (sym (get_or-set_same copies k new None there))
        (subst (λ t. AtArray k fields (cells_at cells k) t new) (sym (mark b))
        (touched_at k fields (cells_at cells k) (get_or touched k false) (get_or copies k None) v b is right (h k))))
    by_place (inr other) =
        subst (λ t. AtArray a fields (cells_at cells a) t (get_or (slice_set copies k new) a None)) (sym (apart b other.1))
        (subst (AtArray a fields (cells_at cells a) (get_or touched a false)) (sym (get_or-set_other copies k a new None other.1)) (h a))

  touch_length : (fields : List ℤ) (v : ℤ) (copies : List (Option (Copy ℤ))) (k : ℕ) → length (held_copies.touch ℤ d indexes fields v copies k) ≡ length copies
  touch_length fields v copies k = length-set copies k (Some (held_copies.touched ℤ d k (word_of k fields) v (get_or copies k None)))

  marked_length : (b : Bool) (k : ℕ) (touched : List Bool) → length (marked b (k ∷ []) touched) ≡ length touched
  marked_length true k touched = length-set touched k true
  marked_length false k touched = refl

  inside : (bs : List ℕ) (n m : ℕ) → n ≡ m → Each (λ b. b < n) bs → Each (λ b. b < m) bs
  inside bs n m same all = subst (λ k. Each (λ b. b < k) bs) same all

  pub touches_alike : (fields : List ℤ) (cells : List (List ℤ)) (v : ℤ) (b : Bool) → truth v ≡ b → (bs : List ℕ) (touched : List Bool) (copies : List (Option (Copy ℤ))) → Each (λ k. k < length copies) bs → Each (λ k. k < length touched) bs → (b ≡ true → Each (RightAt fields) bs) → Alike fields cells touched copies
      → Alike fields cells (marked b bs touched) (fold (held_copies.touch ℤ d indexes fields v) copies bs)
  touches_alike fields cells v true is [] touched copies there room right h = h
  touches_alike fields cells v false is [] touched copies there room right h = h
  touches_alike fields cells v b is (k ∷ bs) touched copies there room right h =
      subst (λ t. Alike fields cells t (fold (held_copies.touch ℤ d indexes fields v) copies (k ∷ bs))) (twice b)
      (touches_alike fields cells v b is bs (marked b (k ∷ []) touched) (held_copies.touch ℤ d indexes fields v copies k)
      (inside bs _ _ (sym (touch_length fields v copies k)) there.1) (inside bs _ _ (sym (marked_length b k touched)) room.1) (λ e. (right e).1)
      (touch_alike fields cells touched copies v b k is there.0 room.0 (λ e. (right e).0) h)) where
        twice : (b : Bool) → marked b bs (marked b (k ∷ []) touched) ≡ marked b (k ∷ bs) touched
        twice true = refl
        twice false = refl

  -- ---- a field is set

  pub moved_at : (a : ℕ) (fields other row : List ℤ) (t : Bool) (c : Option (Copy ℤ)) → (c ≢ None → word_of a fields ≡ word_of a other) → AtArray a fields row t c → AtArray a other row t c
  moved_at a fields other row true None still h = h
  moved_at a fields other row true (Some c) still h =
      let same = still (λ none. cc) in
      (h.0 ∙ same, h.1, h.2 ∙ (λ i. slice_set (cells_at cells0 a) (cell (same i) (length_at shapes a)) c.latest))
  moved_at a fields other row false None still h = h
  moved_at a fields other row false (Some c) still h =
      let same = still (λ none. cc) in
      (h.0 ∙ same, h.1, h.2, h.3 ∙ (λ i. loads a (cell (same i) (length_at shapes a))))

  -- ---- an array is read and written

  pub read_at : (a : ℕ) (fields row : List ℤ) (c : Option (Copy ℤ)) → spot a fields < length (cells_at cells0 a) → AtArray a fields row true c → held_copies.latest_of ℤ word_ops c ≡ word_at row (spot a fields)
  read_at a fields row None within h = elim h [ ]
  read_at a fields row (Some c) within h = sym (ap (λ r. word_at r (spot a fields)) h.2 ∙ get_or-set_same (cells_at cells0 a) (spot a fields) c.latest (pos 0) within)

  set_is : (k : ℕ) (v new old : ℤ) (b : Bool) → truth v ≡ b → (k ≡ 0 → b ≡ true) → any.set_under ℤ d k v new old ≡ (if b then new else old)
  set_is zero v new old b is always = ap (λ t. if t then new else old) (sym (always refl))
  set_is (suc k) v new old b is always = ap (λ t. if t then new else old) is

  pub written_at : (a : ℕ) (fields row : List ℤ) (c : Option (Copy ℤ)) (k : ℕ) (v new : ℤ) → truth v ≡ true → AtArray a fields row true c → AtArray a fields (slice_set row (spot a fields) new) true (any.stored_under ℤ d a k v new c)
  written_at a fields row None k v new is h = elim h [ ]
  written_at a fields row (Some c) k v new is h =
      (h.0, h.1, ap (λ r. slice_set r (spot a fields) new) h.2 ∙ set-set (cells_at cells0 a) (spot a fields) c.latest new ∙ ap (slice_set (cells_at cells0 a) (spot a fields)) (sym (set_is k v new c.latest true is (λ e. refl))))

  pub kept_at : (a : ℕ) (fields row : List ℤ) (t : Bool) (c : Option (Copy ℤ)) (k : ℕ) (v new : ℤ) → truth v ≡ false → (k ≡ 0 → false ≡ true) → AtArray a fields row t c → AtArray a fields row t (any.stored_under ℤ d a k v new c)
  kept_at a fields row true None k v new is never h = h
  kept_at a fields row true (Some c) k v new is never h = (h.0, h.1, h.2 ∙ ap (slice_set (cells_at cells0 a) (spot a fields)) (sym (set_is k v new c.latest false is never)))
  kept_at a fields row false None k v new is never h = h
  kept_at a fields row false (Some c) k v new is never h = (h.0, h.1, h.2, set_is k v new c.latest false is never ∙ h.3)

  kept_touched : (bs : List ℕ) (touched : List Bool) (a : ℕ) → a < length touched → get_or touched a false ≡ true → get_or (touching bs touched) a false ≡ true
  kept_touched [] touched a within is = is
  kept_touched (b ∷ bs) touched a within is = kept_touched bs (slice_set touched b true) a (omega (arith, within, length-set touched b true)) (one (eqb_tells a b)) where
    one : (((a == b) ≡ true) × (a ≡ b)) ⊎ (((a == b) ≡ false) × (a ≢ b)) → get_or (slice_set touched b true) a false ≡ true
    one (inl same) = subst (λ k. get_or (slice_set touched k true) a false ≡ true) same.1 (get_or-set_same touched a true false within)
    one (inr other) = get_or-set_other touched b a true false other.1 ∙ is

  pub all_touched : (bs : List ℕ) (touched : List Bool) → Each (λ b. b < length touched) bs → Each (λ b. get_or (touching bs touched) b false ≡ true) bs
  all_touched [] touched within = tt
  all_touched (b ∷ bs) touched within = (
    kept_touched bs (slice_set touched b true) b (omega (arith, within.0, length-set touched b true)) (get_or-set_same touched b true false within.0),
    all_touched bs (slice_set touched b true) (still bs within.1),
  ) where
    still : (cs : List ℕ) → Each (λ k. k < length touched) cs → Each (λ k. k < length (slice_set touched b true)) cs
    still [] all = tt
    still (c ∷ cs) all = (omega (arith, all.0, length-set touched b true), still cs all.1)

  -- ---- what both sides hold

  pub record Joint : Type 0 where
    pub fields : List ℤ
    pub cells : List (List ℤ)
    pub copies : List (Option (Copy ℤ))
    pub touched : List Bool
    pub guards : List ℤ

  abbrev pub direct_of : Joint → Direct
  direct_of x = record { state = record { store = record { fields = x.fields; cells = x.cells }; touched = x.touched }; guards = map truth x.guards }

  abbrev pub guarded_of : Joint → Guarded ℤ
  guarded_of x = record { fields = x.fields; copies = x.copies; guards = x.guards }

  -- the copies and cells are alike, there is one of each for every array, and guard 0 is 1
  pub record Fine (x : Joint) : Type 0 where
    pub alike : Alike x.fields x.cells x.touched x.copies
    pub cells : length x.cells ≡ length shapes
    pub copies : length x.copies ≡ length shapes
    pub touched : length x.touched ≡ length shapes
    pub always : truth (word_at x.guards 0) ≡ true

  abbrev Roomy : Type 0
  Roomy = (a : ℕ) (fields : List ℤ) → a < length shapes → spot a fields < length (cells_at cells0 a)

  -- reads of touched arrays
  reads : (fields : List ℤ) (cells : List (List ℤ)) (touched : List Bool) (copies : List (Option (Copy ℤ))) → Roomy → Alike fields cells touched copies → (bs : List ℕ) → Each (λ b. b < length shapes) bs → Each (λ b. get_or touched b false ≡ true) bs
      → Each (λ b. held_copies.latest_of ℤ word_ops (get_or copies b None) ≡ word_at (cells_at cells b) (spot b fields)) bs
  reads fields cells touched copies roomy h [] within are = tt
  reads fields cells touched copies roomy h (b ∷ bs) within are = (
    read_at b fields (cells_at cells b) (get_or copies b None) (roomy b fields within.0) (subst (λ t. AtArray b fields (cells_at cells b) t (get_or copies b None)) are.0 (h b)),
    reads fields cells touched copies roomy h bs within.1 are.1,
  )

  -- an expression has one value on the copies and on the cells, where its arrays are touched
  pub one_value : (e : GuardExpr) (fields : List ℤ) (cells : List (List ℤ)) (touched : List Bool) (guards : List ℤ) (copies : List (Option (Copy ℤ))) → Roomy → Alike fields cells touched copies → Each (λ b. b < length shapes) (arrays_in e) → Each (λ b. get_or touched b false ≡ true) (arrays_in e)
      → guard_value e (any.seen_in ℤ d (record { fields = fields; copies = copies; guards = guards })) ≡ guard_value e (seen spot (record { fields = fields; cells = cells }))
  one_value e fields cells touched guards copies roomy h within are = value_agrees ℤ word_ops e _ _ refl (reads fields cells touched copies roomy h (arrays_in e) within are)

  -- ---- one line

  abbrev pub after_touch : List ℕ → ℕ → Joint → List (Option (Copy ℤ))
  after_touch bs k x = fold (held_copies.touch ℤ d indexes x.fields (word_at x.guards k)) x.copies bs

  -- the line moves no index of an array that is loaded
  abbrev pub Leaves : GuardLine → Joint → Type 0
  Leaves (line.SetField f guard e) x = (z : ℤ) (a : ℕ) → get_or (after_touch (arrays_in e) guard x) a None ≢ None → word_of a x.fields ≡ word_of a (slice_set x.fields f z)
  Leaves (line.Test cond under holds fails) x = Unit {0}
  Leaves (line.SetCell a guard e) x = Unit {0}

  pub record Step (l : GuardLine) (x : Joint) : Type 0 where
    pub next : Joint
    pub direct : direct_line spot l (direct_of x) ≡ direct_of next
    pub guarded : any.guard_line ℤ d indexes l (guarded_of x) ≡ guarded_of next
    pub fine : Fine next
    pub there : (a : ℕ) → get_or next.copies a None ≢ None → get_or (after_touch (line_arrays l) (line_guard l) x) a None ≢ None

  length-touching : (bs : List ℕ) (touched : List Bool) → length (touching bs touched) ≡ length touched
  length-touching [] touched = refl
  length-touching (b ∷ bs) touched = length-touching bs (slice_set touched b true) ∙ length-set touched b true

  module _ (roomy : (a : ℕ) (fields : List ℤ) → a < length shapes → spot a fields < length (cells_at cells0 a)) (x : Joint) (fine : Fine x) where
    on_is : (k : ℕ) → on (map truth x.guards) k ≡ truth (word_at x.guards k)
    on_is k = get_or-map truth x.guards k (pos 0)

    alike_after : (bs : List ℕ) (k : ℕ) (b : Bool) → truth (word_at x.guards k) ≡ b → Each (λ b. b < length shapes) bs → (b ≡ true → Each (RightAt x.fields) bs) → Alike x.fields x.cells (marked b bs x.touched) (after_touch bs k x)
    alike_after bs k b is within right = touches_alike x.fields x.cells (word_at x.guards k) b is bs x.touched x.copies (inside bs _ _ (sym fine.copies) within) (inside bs _ _ (sym fine.touched) within) right fine.alike

    long_after : (bs : List ℕ) (k : ℕ) → length (after_touch bs k x) ≡ length shapes
    long_after bs k = length-touches ℤ d indexes x.fields (word_at x.guards k) bs x.copies ∙ fine.copies

    zeroth : (k : ℕ) (b : Bool) → truth (word_at x.guards k) ≡ b → k ≡ 0 → b ≡ true
    zeroth k b is e = sym is ∙ ap (λ j. truth (word_at x.guards j)) e ∙ fine.always

    same_value : (e : GuardExpr) (bs : List ℕ) (k : ℕ) → truth (word_at x.guards k) ≡ true → Each (λ b. b < length shapes) (arrays_in e) → Alike x.fields x.cells (touching bs x.touched) (after_touch bs k x) → Each (λ b. get_or (touching bs x.touched) b false ≡ true) (arrays_in e)
        → guard_value e (any.seen_in ℤ d (record { fields = x.fields; copies = after_touch bs k x; guards = x.guards })) ≡ guard_value e (seen spot (record { fields = x.fields; cells = x.cells }))
    same_value e bs k is within alike are = one_value e x.fields x.cells (touching bs x.touched) x.guards (after_touch bs k x) roomy alike within are

    step_field : (f k : ℕ) (e : GuardExpr) (b : Bool) → truth (word_at x.guards k) ≡ b → Each (λ b. b < length shapes) (arrays_in e)
        → (b ≡ true → Each (RightAt x.fields) (arrays_in e)) → Leaves (line.SetField f k e) x → Step (line.SetField f k e) x
    step_field f k e false is within right leaves = record {
      next = record { fields = x.fields; cells = x.cells; copies = after_touch (arrays_in e) k x; touched = x.touched; guards = x.guards };
      direct = λ i. record { state = if (on_is k ∙ is) i then assign_field spot f e (direct_of x).state else (direct_of x).state; guards = map truth x.guards };
      guarded = λ i. record {
        fields = (ap (slice_set x.fields f) (set_is k (word_at x.guards k) (guard_value e (any.seen_in ℤ d (record { fields = x.fields; copies = after_touch (arrays_in e) k x; guards = x.guards }))) (word_at x.fields f) false is (zeroth k false is)) ∙ set-get_or x.fields f (pos 0)) i;
        copies = after_touch (arrays_in e) k x;
        guards = x.guards;
      };
      fine = record { alike = alike_after (arrays_in e) k false is within right; cells = fine.cells; copies = long_after (arrays_in e) k; touched = fine.touched; always = fine.always };
      there = λ a is. is;
    }
    step_field f k e true is within right leaves =
        let copies : List (Option (Copy ℤ)) = after_touch (arrays_in e) k x in
        let v : ℤ = guard_value e (seen spot (record { fields = x.fields; cells = x.cells })) in
        let alike = alike_after (arrays_in e) k true is within right in
        let same = same_value e (arrays_in e) k is within alike (all_touched (arrays_in e) x.touched (inside (arrays_in e) _ _ (sym fine.touched) within)) in
        record {
          next = record { fields = slice_set x.fields f v; cells = x.cells; copies = copies; touched = touching (arrays_in e) x.touched; guards = x.guards };
          direct = λ i. record { state = if (on_is k ∙ is) i then assign_field spot f e (direct_of x).state else (direct_of x).state; guards = map truth x.guards };
          guarded = λ i. record {
            fields = slice_set x.fields f ((set_is k (word_at x.guards k) (guard_value e (any.seen_in ℤ d (record { fields = x.fields; copies = copies; guards = x.guards }))) (word_at x.fields f) true is (λ e. refl) ∙ same) i);
            copies = copies;
            guards = x.guards;
          };
          fine = record {
            alike = λ a. moved_at a x.fields (slice_set x.fields f v) (cells_at x.cells a) (get_or (touching (arrays_in e) x.touched) a false) (get_or copies a None) (leaves v a) (alike a);
            cells = fine.cells;
            copies = long_after (arrays_in e) k;
            touched = length-touching (arrays_in e) x.touched ∙ fine.touched;
            always = fine.always;
          };
          there = λ a is. is;
        }

    some : (a k : ℕ) (v new : ℤ) (c : Option (Copy ℤ)) → any.stored_under ℤ d a k v new c ≢ None → c ≢ None
    some a k v new None is = is
    some a k v new (Some c) is = λ e. cc

    still_there : (array : ℕ) (copies : List (Option (Copy ℤ))) (k : ℕ) (v new : ℤ) → array < length copies → (a : ℕ) → get_or (slice_set copies array (any.stored_under ℤ d array k v new (get_or copies array None))) a None ≢ None → get_or copies a None ≢ None
    still_there array copies k v new room a is = elim (eqb_tells a array) [
      | inl here ↦ subst (λ j. get_or copies j None ≢ None) (sym here.1) (some array k v new (get_or copies array None) (subst (λ c. c ≢ None) (get_or-set_same copies array _ None room) (subst (λ j. get_or (slice_set copies array (any.stored_under ℤ d array k v new (get_or copies array None))) j None ≢ None) here.1 is)))
      | inr other ↦ subst (λ c. c ≢ None) (get_or-set_other copies array a _ None other.1) is
    ]

    step_cell : (array k : ℕ) (e : GuardExpr) (b : Bool) → truth (word_at x.guards k) ≡ b → Each (λ b. b < length shapes) (array ∷ arrays_in e)
        → (b ≡ true → Each (RightAt x.fields) (array ∷ arrays_in e)) → Step (line.SetCell array k e) x
    step_cell array k e false is within right =
        let copies : List (Option (Copy ℤ)) = after_touch (array ∷ arrays_in e) k x in
        let long : length copies ≡ length shapes = long_after (array ∷ arrays_in e) k in
        let z : ℤ = guard_value e (any.seen_in ℤ d (record { fields = x.fields; copies = copies; guards = x.guards })) in
        let new : Option (Copy ℤ) = any.stored_under ℤ d array k (word_at x.guards k) z (get_or copies array None) in
        let alike = alike_after (array ∷ arrays_in e) k false is within right in
        record {
          next = record { fields = x.fields; cells = x.cells; copies = slice_set copies array new; touched = x.touched; guards = x.guards };
          direct = λ i. record { state = if (on_is k ∙ is) i then assign_cell spot array e (direct_of x).state else (direct_of x).state; guards = map truth x.guards };
          guarded = refl;
          fine = record {
            alike = λ a. elim (eqb_tells a array) [
              | inl here ↦ subst (λ j. AtArray j x.fields (cells_at x.cells j) (get_or x.touched j false) (get_or (slice_set copies array new) j None)) (sym here.1)
                  (subst (AtArray array x.fields (cells_at x.cells array) (get_or x.touched array false)) (sym (get_or-set_same copies array new None (omega (arith, within.0, long))))
                  (kept_at array x.fields (cells_at x.cells array) (get_or x.touched array false) (get_or copies array None) k (word_at x.guards k) z is (zeroth k false is) (alike array)))
              | inr other ↦ subst (AtArray a x.fields (cells_at x.cells a) (get_or x.touched a false)) (sym (get_or-set_other copies array a new None other.1)) (alike a)
            ];
            cells = fine.cells;
            copies = length-set copies array new ∙ long;
            touched = fine.touched;
            always = fine.always;
          };
          there = still_there array copies k (word_at x.guards k) z (omega (arith, within.0, long));
        }
    step_cell array k e true is within right =
        let copies : List (Option (Copy ℤ)) = after_touch (array ∷ arrays_in e) k x in
        let touched : List Bool = touching (array ∷ arrays_in e) x.touched in
        let v : ℤ = guard_value e (seen spot (record { fields = x.fields; cells = x.cells })) in
        let alike = alike_after (array ∷ arrays_in e) k true is within right in
        let are = all_touched (array ∷ arrays_in e) x.touched (inside (array ∷ arrays_in e) _ _ (sym fine.touched) within) in
        let same = same_value e (array ∷ arrays_in e) k is within.1 alike are.1 in
        let long : length copies ≡ length shapes = long_after (array ∷ arrays_in e) k in
        let row : List ℤ = slice_set (cells_at x.cells array) (spot array x.fields) v in
        let new : Option (Copy ℤ) = any.stored_under ℤ d array k (word_at x.guards k) v (get_or copies array None) in
        record {
          next = record { fields = x.fields; cells = slice_set x.cells array row; copies = slice_set copies array new; touched = touched; guards = x.guards };
          direct = λ i. record { state = if (on_is k ∙ is) i then assign_cell spot array e (direct_of x).state else (direct_of x).state; guards = map truth x.guards };
          guarded = λ i. record { fields = x.fields; copies = slice_set copies array (any.stored_under ℤ d array k (word_at x.guards k) (same i) (get_or copies array None)); guards = x.guards };
          fine = record {
            alike = λ a. elim (eqb_tells a array) [
              | inl here ↦ subst (λ k. AtArray k x.fields (cells_at (slice_set x.cells array row) k) (get_or touched k false) (get_or (slice_set copies array new) k None)) (sym here.1)
                  (subst (λ r. AtArray array x.fields r (get_or touched array false) (get_or (slice_set copies array new) array None)) (sym (get_or-set_same x.cells array row [] (omega (arith, within.0, fine.cells))))
                  (subst (λ c. AtArray array x.fields row (get_or touched array false) c) (sym (get_or-set_same copies array new None (omega (arith, within.0, long))))
                  (subst (λ t. AtArray array x.fields row t new) (sym are.0)
                  (written_at array x.fields (cells_at x.cells array) (get_or copies array None) k (word_at x.guards k) v is (subst (λ t. AtArray array x.fields (cells_at x.cells array) t (get_or copies array None)) are.0 (alike array))))))
              | inr other ↦ subst (λ r. AtArray a x.fields r (get_or touched a false) (get_or (slice_set copies array new) a None)) (sym (get_or-set_other x.cells array a row [] other.1))
                  (subst (λ c. AtArray a x.fields (cells_at x.cells a) (get_or touched a false) c) (sym (get_or-set_other copies array a new None other.1)) (alike a))
            ];
            cells = length-set x.cells array row ∙ fine.cells;
            copies = length-set copies array new ∙ long;
            touched = length-touching (array ∷ arrays_in e) x.touched ∙ fine.touched;
            always = fine.always;
          };
          there = still_there array copies k (word_at x.guards k) v (omega (arith, within.0, long));
        }

    first_kept : (gs more : List ℤ) → truth (word_at gs 0) ≡ true → truth (word_at (gs ++ more) 0) ≡ true
    first_kept [] more e = absurd (nothing e) where
      nothing : truth (pos 0) ≡ true → ⊥
      nothing e = cc
    first_kept (g ∷ gs) more e = e

    test_on : (under : ℕ) (cond : GuardExpr) (holds fails : ℕ) (b : Bool) → truth (word_at x.guards under) ≡ b → Each (λ b. b < length shapes) (arrays_in cond)
        → (b ≡ true → Each (RightAt x.fields) (arrays_in cond)) → Step (line.Test cond under holds fails) x
    test_on under cond holds fails b is within right =
        let copies : List (Option (Copy ℤ)) = after_touch (arrays_in cond) under x in
        let z : ℤ = guard_value cond (any.seen_in ℤ d (record { fields = x.fields; copies = copies; guards = x.guards })) in
        let v : ℤ = guard_value cond (seen spot (record { fields = x.fields; cells = x.cells })) in
        let more : List ℤ = d.yes (word_at x.guards under) z ∷ d.no (word_at x.guards under) z ∷ [] in
        let alike = alike_after (arrays_in cond) under b is within right in
        record {
          next = record { fields = x.fields; cells = x.cells; copies = copies; touched = marked b (arrays_in cond) x.touched; guards = x.guards ++ more };
          direct = λ i. record {
            state = (ap (λ t. if t then touch (arrays_in cond) (direct_of x).state else (direct_of x).state) (on_is under ∙ is) ∙ state b) i;
            guards = ((λ j. map truth x.guards ++ ((on_is under j && truth v) ∷ (on_is under j && not (truth v)) ∷ []))
                ∙ (λ j. map truth x.guards ++ (yes z v b is (agree b is alike) j ∷ no z v b is (agree b is alike) j ∷ []))
                ∙ sym (map-append truth x.guards more)) i;
          };
          guarded = refl;
          fine = record { alike = alike; cells = fine.cells; copies = long_after (arrays_in cond) under; touched = marks_long b; always = first_kept x.guards more fine.always };
          there = λ a is. is;
        } where
          state : (b : Bool) → (if b then touch (arrays_in cond) (direct_of x).state else (direct_of x).state) ≡ record { store = record { fields = x.fields; cells = x.cells }; touched = marked b (arrays_in cond) x.touched }
          state true = refl
          state false = refl

          marks_long : (b : Bool) → length (marked b (arrays_in cond) x.touched) ≡ length shapes
          marks_long true = length-touching (arrays_in cond) x.touched ∙ fine.touched
          marks_long false = fine.touched

          agree : (b : Bool) → truth (word_at x.guards under) ≡ b → Alike x.fields x.cells (marked b (arrays_in cond) x.touched) (after_touch (arrays_in cond) under x) → b ≡ true
              → guard_value cond (any.seen_in ℤ d (record { fields = x.fields; copies = after_touch (arrays_in cond) under x; guards = x.guards })) ≡ guard_value cond (seen spot (record { fields = x.fields; cells = x.cells }))
          agree true is alike e = same_value cond (arrays_in cond) under is within alike (all_touched (arrays_in cond) x.touched (inside (arrays_in cond) _ _ (sym fine.touched) within))
          agree false is alike e = absurd cc

          yes : (z v : ℤ) (b : Bool) → truth (word_at x.guards under) ≡ b → (b ≡ true → z ≡ v) → (truth (word_at x.guards under) && truth v) ≡ truth (flag (truth (word_at x.guards under) && truth z))
          yes z v true is same = (λ i. truth (word_at x.guards under) && truth (sym (same refl) i)) ∙ sym (flag_truth _)
          yes z v false is same = (λ i. is i && truth v) ∙ (λ i. sym is i && truth z) ∙ sym (flag_truth _)

          no : (z v : ℤ) (b : Bool) → truth (word_at x.guards under) ≡ b → (b ≡ true → z ≡ v) → (truth (word_at x.guards under) && not (truth v)) ≡ truth (flag (truth (word_at x.guards under) && not (truth z)))
          no z v true is same = (λ i. truth (word_at x.guards under) && not (truth (sym (same refl) i))) ∙ sym (flag_truth _)
          no z v false is same = (λ i. is i && not (truth v)) ∙ (λ i. sym is i && not (truth z)) ∙ sym (flag_truth _)

    -- any line
    pub step : (l : GuardLine) → Each (λ b. b < length shapes) (line_arrays l)
        → (truth (word_at x.guards (line_guard l)) ≡ true → Each (RightAt x.fields) (line_arrays l)) → Leaves l x → Step l x
    step (line.Test cond under holds fails) within right leaves = test_on under cond holds fails (truth (word_at x.guards under)) refl within right
    step (line.SetField f guard e) within right leaves = step_field f guard e (truth (word_at x.guards guard)) refl within right leaves
    step (line.SetCell array guard e) within right leaves = step_cell array guard e (truth (word_at x.guards guard)) refl within right

  -- ---- all lines

  -- no field of a marked array's index is set, and each line's arrays are there; a line marks its arrays
  abbrev pub LeavesMarked : GuardLine → List Bool → Type 0
  LeavesMarked (line.SetField f guard e) marks = (a : ℕ) → get_or marks a false ≡ true → (fields : List ℤ) (z : ℤ) → word_of a (slice_set fields f z) ≡ word_of a fields
  LeavesMarked (line.Test cond under holds fails) marks = Unit {0}
  LeavesMarked (line.SetCell a guard e) marks = Unit {0}

  abbrev pub Still : List Bool → List GuardLine → Type 0
  Still marks [] = Unit {0}
  Still marks (l ∷ lines) = Each (λ b. b < length shapes) (line_arrays l) × LeavesMarked l (touching (line_arrays l) marks) × Still (touching (line_arrays l) marks) lines

  -- the lines behind leave the index of a marked array
  line_leaves : (l : GuardLine) (marks : List Bool) → LeavesMarked l marks → (d : Direct) (a : ℕ) → get_or marks a false ≡ true → word_of a (direct_line spot l d).state.store.fields ≡ word_of a d.state.store.fields
  line_leaves (line.Test cond under holds fails) marks leaves d a marked = both (on d.guards under) where
    both : (b : Bool) → word_of a (if b then touch (arrays_in cond) d.state else d.state).store.fields ≡ word_of a d.state.store.fields
    both true = refl
    both false = refl
  line_leaves (line.SetField f guard e) marks leaves d a marked = both (on d.guards guard) where
    both : (b : Bool) → word_of a (if b then assign_field spot f e d.state else d.state).store.fields ≡ word_of a d.state.store.fields
    both true = leaves a marked d.state.store.fields (guard_value e (seen spot d.state.store))
    both false = refl
  line_leaves (line.SetCell b guard e) marks leaves d a marked = both (on d.guards guard) where
    both : (c : Bool) → word_of a (if c then assign_cell spot b e d.state else d.state).store.fields ≡ word_of a d.state.store.fields
    both true = refl
    both false = refl

  lines_leave : (lines : List GuardLine) (marks : List Bool) → length marks ≡ length shapes → Still marks lines → (d : Direct) (a : ℕ) → a < length shapes → get_or marks a false ≡ true → word_of a (direct_lines spot lines d).state.store.fields ≡ word_of a d.state.store.fields
  lines_leave [] marks long still d a within marked = refl
  lines_leave (l ∷ lines) marks long still d a within marked =
      let more = kept_touched (line_arrays l) marks a (omega (arith, long, within)) marked in
      lines_leave lines (touching (line_arrays l) marks) (length-touching (line_arrays l) marks ∙ long) still.2 (direct_line spot l d) a within more
      ∙ line_leaves l (touching (line_arrays l) marks) still.1 d a more

  -- what is touched stays touched
  line_touched : (l : GuardLine) (d : Direct) → (length (direct_line spot l d).state.touched ≡ length d.state.touched) × ((a : ℕ) → a < length d.state.touched → get_or d.state.touched a false ≡ true → get_or (direct_line spot l d).state.touched a false ≡ true)
      × (on d.guards (line_guard l) ≡ true → (direct_line spot l d).state.touched ≡ touching (line_arrays l) d.state.touched)
  line_touched l d = by_line l where
    cases : (bs : List ℕ) (b : Bool) (after : State) (is : after.touched ≡ touching bs d.state.touched)
        → (length (if b then after else d.state).touched ≡ length d.state.touched) × ((a : ℕ) → a < length d.state.touched → get_or d.state.touched a false ≡ true → get_or (if b then after else d.state).touched a false ≡ true) × (b ≡ true → (if b then after else d.state).touched ≡ touching bs d.state.touched)
    cases bs true after is = (ap length is ∙ length-touching bs d.state.touched, λ a within was. ap (λ t. get_or t a false) is ∙ kept_touched bs d.state.touched a within was, λ e. is)
    cases bs false after is = (refl, λ a within was. was, λ e. absurd cc)

    by_line : (l : GuardLine) → (length (direct_line spot l d).state.touched ≡ length d.state.touched) × ((a : ℕ) → a < length d.state.touched → get_or d.state.touched a false ≡ true → get_or (direct_line spot l d).state.touched a false ≡ true)
        × (on d.guards (line_guard l) ≡ true → (direct_line spot l d).state.touched ≡ touching (line_arrays l) d.state.touched)
    by_line (line.Test cond under holds fails) = cases (arrays_in cond) (on d.guards under) (touch (arrays_in cond) d.state) refl
    by_line (line.SetField f guard e) = cases (arrays_in e) (on d.guards guard) (assign_field spot f e d.state) refl
    by_line (line.SetCell a guard e) = cases (a ∷ arrays_in e) (on d.guards guard) (assign_cell spot a e d.state) refl

  lines_touched : (lines : List GuardLine) (d : Direct) (a : ℕ) → a < length d.state.touched → get_or d.state.touched a false ≡ true → get_or (direct_lines spot lines d).state.touched a false ≡ true
  lines_touched [] d a within was = was
  lines_touched (l ∷ lines) d a within was =
      let one = line_touched l d in
      lines_touched lines (direct_line spot l d) a (omega (arith, within, one.0)) (one.1 a within was)

  -- what is loaded is marked
  abbrev Marked : List Bool → List (Option (Copy ℤ)) → Type 0
  Marked marks copies = (a : ℕ) → get_or copies a None ≢ None → get_or marks a false ≡ true

  marked_loads : (fields : List ℤ) (v : ℤ) (bs : List ℕ) (copies : List (Option (Copy ℤ))) (marks : List Bool) → Each (λ b. b < length marks) bs → Marked marks copies → Marked (touching bs marks) (fold (held_copies.touch ℤ d indexes fields v) copies bs)
  marked_loads fields v [] copies marks within h = h
  marked_loads fields v (b ∷ bs) copies marks within h = marked_loads fields v bs (held_copies.touch ℤ d indexes fields v copies b) (slice_set marks b true) (inside bs _ _ (sym (length-set marks b true)) within.1) (λ a is. by_place a is (eqb_tells a b)) where
    by_place : (a : ℕ) → get_or (held_copies.touch ℤ d indexes fields v copies b) a None ≢ None → (((a == b) ≡ true) × (a ≡ b)) ⊎ (((a == b) ≡ false) × (a ≢ b)) → get_or (slice_set marks b true) a false ≡ true
    by_place a is (inl same) = subst (λ k. get_or (slice_set marks b true) k false ≡ true) (sym same.1) (get_or-set_same marks b true false within.0)
    by_place a is (inr other) = get_or-set_other marks b a true false other.1 ∙ h a (subst (λ c. c ≢ None) (get_or-set_other copies b a _ None other.1) is)

  -- every array that is touched in the end was loaded with its cell
  abbrev pub RightLoads : State → Type 0
  RightLoads s = (a : ℕ) → a < length shapes → get_or s.touched a false ≡ true → RightAt s.store.fields a

  pub record Run (lines : List GuardLine) (x : Joint) : Type 0 where
    pub last : Joint
    pub direct : direct_lines spot lines (direct_of x) ≡ direct_of last
    pub guarded : any.guard_lines ℤ d indexes lines (guarded_of x) ≡ guarded_of last
    pub fine : Fine last

  module _ (roomy : (a : ℕ) (fields : List ℤ) → a < length shapes → spot a fields < length (cells_at cells0 a)) where
    pub run : (lines : List GuardLine) (marks : List Bool) → length marks ≡ length shapes → Still marks lines → (x : Joint) → Fine x → Marked marks x.copies → RightLoads (direct_lines spot lines (direct_of x)).state → Run lines x
    run [] marks long still x fine marked right = record { last = x; direct = refl; guarded = refl; fine = fine }
    run (l ∷ lines) marks long still x fine marked right =
        let rest = run lines (touching (line_arrays l) marks) (length-touching (line_arrays l) marks ∙ long) still.2 here.next here.fine
        (λ a is. now_marked a (here.there a is))
        (subst (λ d. RightLoads (direct_lines spot lines d).state) here.direct right) in
        record {
          last = rest.last;
          direct = ap (direct_lines spot lines) here.direct ∙ rest.direct;
          guarded = ap (any.guard_lines ℤ d indexes lines) here.guarded ∙ rest.guarded;
          fine = rest.fine;
        } where
          d1 : Direct
          d1 = direct_line spot l (direct_of x)

          now_marked : Marked (touching (line_arrays l) marks) (after_touch (line_arrays l) (line_guard l) x)
          now_marked = marked_loads x.fields (word_at x.guards (line_guard l)) (line_arrays l) x.copies marks (inside (line_arrays l) _ _ (sym long) still.0) marked

          -- an array of the line, where its guard is 1
          right_at : truth (word_at x.guards (line_guard l)) ≡ true → (bs : List ℕ) → Each (λ b. b < length shapes) bs → Each (λ b. get_or (touching (line_arrays l) x.touched) b false ≡ true) bs → Each (λ b. get_or (touching (line_arrays l) marks) b false ≡ true) bs
              → Each (λ b. loads b (spot b x.fields) ≡ word_at (cells_at cells0 b) (spot b x.fields)) bs
          right_at is [] within touched marked = tt
          right_at is (b ∷ bs) within touched marked = (
            (let one = line_touched l (direct_of x) in
                let at_end = lines_touched lines d1 b (omega (arith, within.0, one.0, fine.touched)) (ap (λ t. get_or t b false) (one.2 (get_or-map truth x.guards (line_guard l) (pos 0) ∙ is)) ∙ touched.0) in
                let behind = lines_leave lines (touching (line_arrays l) marks) (length-touching (line_arrays l) marks ∙ long) still.2 d1 b within.0 marked.0 in
                let word = behind ∙ line_leaves l (touching (line_arrays l) marks) still.1 (direct_of x) b marked.0 in
                subst (λ w. loads b (cell w (length_at shapes b)) ≡ word_at (cells_at cells0 b) (cell w (length_at shapes b))) word (right b within.0 at_end)),
            right_at is bs within.1 touched.1 marked.1,
          )

          leaves : (l : GuardLine) → LeavesMarked l (touching (line_arrays l) marks) → Marked (touching (line_arrays l) marks) (after_touch (line_arrays l) (line_guard l) x) → Leaves l x
          leaves (line.Test cond under holds fails) still now = tt
          leaves (line.SetField f guard e) still now = λ z a is. sym (still a (now a is) x.fields z)
          leaves (line.SetCell a guard e) still now = tt

          here : Step l x
          here = step roomy x fine l still.0
              (λ is. right_at is (line_arrays l) still.0 (all_touched (line_arrays l) x.touched (inside (line_arrays l) _ _ (sym fine.touched) still.0)) (all_touched (line_arrays l) marks (inside (line_arrays l) _ _ (sym long) still.0)))
              (leaves l still.1 now_marked)
