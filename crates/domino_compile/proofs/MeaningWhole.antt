-- Staged code on the units of any cells ends as the source does on these cells.
use Rattle.std.proofs.Common.{◌≡◌, ℕ, ◌<◌, ◌≤◌, ◌==◌, ◌&&◌, nat_lt, ℤ, pos, Bool, true, false, if◌then◌else◌, List, [], ◌∷◌, length, map, replicate, slice_set, Option, Some, None, refl, sym, ap, subst, ◌∙◌, inl, inr, arith}
use Rattle.std.specs.List.{list_any, slice_index_or}
use Rattle.std.proofs.lemmas.List.{length-map, get_or_past, set-get_or, get_or-set_other}
use Rattle.std.proofs.lemmas.Bool.Decides.{eqb_tells, nat_tests}
use Rattle.mp5_words.specs.Words.{truth, cell}
use Rattle.mp5_words.specs.Cells.{word_at, cells_at, natural}
use Rattle.mp5_words.specs.Domain.{Loads, word_ops, words}
use Rattle.mp5_words.specs.Copies.{Copy}
use Rattle.domino_tree.specs.declared.program.Program.{Program}
use Rattle.domino_tree.specs.Value.{HasCells, Array, names_of}
use Rattle.domino_tree.specs.Execution.{State}
use Rattle.domino_check.specs.Numbering.{numbered_body}
use Rattle.domino_check.specs.NumberedMeaning.{indexing, executed_from}
use Rattle.code_forms.specs.declared.flat.Operand.{Operand}
use Rattle.code_forms.specs.declared.flat.Operand.TheVariants as operand
use Rattle.code_forms.specs.declared.flat.Instr.{Instr}
use Rattle.code_forms.specs.declared.flat.Instr.TheVariants as instr
use Rattle.code_forms.specs.declared.flat.FlatArray.{FlatArray}
use Rattle.code_forms.specs.declared.guard.ArrayShape.{ArrayShape}
use Rattle.code_forms.specs.declared.guard.GuardCode.{GuardCode}
use Rattle.code_forms.specs.FlatValid.{is_some, is_touched}
use Rattle.code_forms.specs.FlatMeaning.{operand_value, flat_values, flat_length, index_operand, steps_of}
use Rattle.code_forms.specs.GuardMeaning.{Guarded, length_at, indexes_of, guard_lines, guard_start}
use Rattle.code_forms.specs.Staged.{Staged, Member, group_at, group_of, guards_of, slot_of_index, operand_word, stored_operand, unit_count, first_array}
use Rattle.code_forms.specs.StagedMeaning.{Units, is_open, is_touching, place, header_words, is_place, placed_word, loaded_word, staged_loads, staged_values, code_values, last_words, cells_after, units_after}
use Rattle.branch_removal.specs.Kept.{copy_of, IsKept, run_lines, untouched, LoadsRight}
use Rattle.branch_removal.specs.Kept as kept_forms
use Rattle.ssa_flatten.specs.Flattened.{EndsAs, under_of, store_operand}
use Rattle.code_forms.proofs.ValidLemmas.{and_front, and_back}
use Rattle.code_forms.proofs.OrderLemmas.{length_replicate, in_order}
use Rattle.code_forms.proofs.StagedLemmas.{fitting, lives}
use Rattle.code_forms.proofs.UnitLemmas.{cell_below, zero_place}
use Rattle.branch_removal.proofs.ShapeLemmas.{shapes_long, length_same}
use Rattle.domino_names.proofs.InfoLemmas.{length-infos}
use Rattle.domino_compile.specs.MeaningKept.{in_unit, units_of, IsStagedOf, EndsAsSource, MeansSource}
use Rattle.domino_compile.proofs.FrameLemmas.{Same, Within, After, Frames, exec_frames}
use Rattle.domino_compile.proofs.UnitsLemmas.{distinct, flat_same}
use Rattle.domino_compile.proofs.MeaningLoads.{same_run}
use Rattle.domino_compile.proofs.MeaningCopies.{Stays, lines_stay}
use Rattle.domino_compile.proofs.MeaningGroups.{group_has, array_there, group_touched, group_sized, index_value, no_guards}
use Rattle.domino_compile.proofs.MeaningRows.{zeros, row_long, kept_row, kept_rows, kept_at, kept_long, kept_counts, touched_any, any_mapped, guards_at, under_at, unit_word, unit_stores}

-- ---- operands and places

-- an operand's value is its word
operand_is : (lengths : ℕ → ℕ) (loads : Loads) (env : List ℤ) (x : Operand) → operand_value ℤ (words lengths loads) env x ≡ operand_word env x
operand_is lengths loads env (operand.Slot k) = refl
operand_is lengths loads env (operand.Number n) = refl

-- the operand of the array's Store
stored_is : (instrs : List Instr) (a : ℕ) → store_operand instrs a ≡ stored_operand instrs a
stored_is [] a = refl
stored_is (instr.Store b x ∷ instrs) a = ap (λ y. if b == a then x else y) (stored_is instrs a)
stored_is (instr.One op x ∷ instrs) a = stored_is instrs a
stored_is (instr.Two op x y ∷ instrs) a = stored_is instrs a
stored_is (instr.Pick x y z ∷ instrs) a = stored_is instrs a
stored_is (instr.Hash kind x y z ∷ instrs) a = stored_is instrs a
stored_is (instr.Move x ∷ instrs) a = stored_is instrs a
stored_is (instr.Yes guard x ∷ instrs) a = stored_is instrs a
stored_is (instr.No guard x ∷ instrs) a = stored_is instrs a
stored_is (instr.Index b x ∷ instrs) a = stored_is instrs a
stored_is (instr.Load b ∷ instrs) a = stored_is instrs a

-- whether there is no place
abbrev is_none : Option ℕ → Bool
is_none None = true
is_none (Some u) = false

-- the place at a group, if there is a group
abbrev place_in : Staged → List ℤ → Option ℕ → Option ℕ
place_in c header None = None
place_in c header (Some g) = place c header g

-- ---- the whole

module _ (p : Program) (g : GuardCode) (c : Staged) (is : IsStagedOf p g c) (header : List ℤ) (cells : List (List ℤ)) (long : length header ≡ c.fields) (has : HasCells (names_of p) cells) where
  abbrev units : Units
  units = units_of c cells

  -- the values of all slots
  abbrev vals : List ℤ
  vals = staged_values c units header

  -- how many arrays there are
  abbrev count : ℕ
  count = length (names_of p).arrays

  -- the arrays without a place
  abbrev away : ℕ → Bool
  away a = nat_lt a count && is_none (place_in c header (group_of c a))

  -- the cells, 0 in these
  abbrev zeroed : List (List ℤ)
  zeroed = kept_rows away cells

  -- what is loaded from them
  abbrev loads : Loads
  loads a i = word_at (cells_at zeroed a) i

  abbrev done : State
  done = executed_from p (untouched p header cells)

  abbrev done_zeroed : State
  done_zeroed = executed_from p (untouched p header zeroed)

  abbrev lines : Guarded ℤ
  lines = run_lines g.arrays g.lines loads header

  many : length cells ≡ count
  many = sym (length-map cells (λ (r : List ℤ). length r)) ∙ ap length has ∙ length-map (names_of p).arrays (λ (d : Array). d.length)

  lengths_same : flat_length c.arrays ≡ length_at g.arrays
  lengths_same = λ i a. slice_index_or (is.arrays.lengths i) a 1

  arrays_many : length c.arrays ≡ length cells
  arrays_many =
      sym (length-map c.arrays (λ (f : FlatArray). f.length)) ∙ ap length is.arrays.lengths ∙ length-map g.arrays (λ (s : ArrayShape). s.length)
      ∙ ap (λ (l : List ArrayShape). length l) is.shapes ∙ shapes_long p ∙ length-infos p ∙ sym many

  row_length : (a : ℕ) → a < length c.arrays → length (cells_at cells a) ≡ flat_length c.arrays a
  row_length a below =
      row_long cells a (subst (λ n. a < n) arrays_many below) ∙ ap (λ l. slice_index_or l a 1) has
      ∙ sym (ap (λ l. length_at l a) is.shapes ∙ length_same p a) ∙ sym (ap (λ l. slice_index_or l a 1) is.arrays.lengths)

  -- ---- 1. the values are those of flat code on the zeroed cells

  member_long : (h : ℕ) → h < length c.groups → (a : ℕ) → Member a (group_at c h).arrays → length (cells_at cells a) ≡ flat_length c.arrays a
  member_long h below a m = row_length a (array_there c is.staged h a below m)

  -- the word of an array's Index
  abbrev index : ℕ → ℕ
  index a = natural (word_at vals (slot_of_index c a))

  index_less : (h a : ℕ) → h < length c.groups → Member a (group_at c h).arrays → index a < flat_length c.arrays a
  index_less h a below m =
      let z : ℤ = operand_value ℤ (words (flat_length c.arrays) (staged_loads c units header)) vals (index_operand c.instrs a) in
      let value : word_at vals (slot_of_index c a) ≡ pos (cell z (flat_length c.arrays a)) = index_value c is.staged h a below m (staged_loads c units header) header long in
      let less : cell z (flat_length c.arrays a) < flat_length c.arrays a = cell_below z (flat_length c.arrays a) (group_sized c is.staged h a below m) in
      subst (λ w. natural w < flat_length c.arrays a) (sym value) less

  -- at a sharded group it is the place
  index_own : (h a u : ℕ) → h < length c.groups → Member a (group_at c h).arrays → place c header h ≡ Some u → (group_at c h).sharded ≡ true → index a ≡ u
  index_own h a u below m placed sharded = ap natural (is.places header units long h u below sharded placed a m)

  away_row : (a i : ℕ) → is_none (place_in c header (group_of c a)) ≡ true → loads a i ≡ pos 0
  away_row a i none = ap (λ r. word_at r i) (kept_at away cells a ∙ ap (λ (b : Bool). kept_row (nat_lt a count && b) (cells_at cells a)) none) ∙ cases (nat_lt a count) refl where
    past : nat_lt a count ≡ false → length cells ≤ a
    past t = grind (arith, nat_tests, t, many)

    cases : (b : Bool) → nat_lt a count ≡ b → word_at (kept_row (b && true) (cells_at cells a)) i ≡ pos 0
    cases true t = zeros (length (cells_at cells a)) i
    cases false t = ap (λ r. word_at r i) (get_or_past cells a [] (past t))

  and_false : (b : Bool) → (b && false) ≡ false
  and_false true = refl
  and_false false = refl

  -- an array with a place isn't away
  not_away : (a u : ℕ) → place_in c header (group_of c a) ≡ Some u → away a ≡ false
  not_away a u placed = ap (λ o. nat_lt a count && is_none o) placed ∙ and_false (nat_lt a count)

  placed_row : (a : ℕ) → away a ≡ false → cells_at zeroed a ≡ cells_at cells a
  placed_row a there = kept_at away cells a ∙ ap (λ b. kept_row b (cells_at cells a)) there

  agree : (a : ℕ) → staged_loads c units header a (index a) ≡ loads a (index a)
  agree a = by_group (group_of c a) refl where
    by_place : (h : ℕ) → group_of c a ≡ Some h → (o : Option ℕ) → place c header h ≡ o → placed_word c units h o a (index a) ≡ loads a (index a)
    by_place h grouped None placed = sym (away_row a (index a) (ap (λ o. is_none (place_in c header o)) grouped ∙ ap is_none placed))
    by_place h grouped (Some u) placed =
        let there = group_has c a h grouped in
        let at : place_in c header (group_of c a) ≡ Some u = ap (place_in c header) grouped ∙ placed in
        unit_word (cells_at cells) (flat_length c.arrays) (group_at c h).arrays (member_long h there.0) (group_at c h).sharded u (index a) a there.1
        (λ sharded. index_own h a u there.0 there.1 placed sharded) (index_less h a there.0 there.1)
        ∙ ap (λ r. word_at r (index a)) (sym (placed_row a (not_away a u at)))

    by_group : (o : Option ℕ) → group_of c a ≡ o → loaded_word c units header o a (index a) ≡ loads a (index a)
    by_group None grouped = sym (away_row a (index a) (ap (λ o. is_none (place_in c header o)) grouped))
    by_group (Some h) grouped = by_place h grouped (place c header h) refl

  values_same : vals ≡ code_values c loads header
  values_same =
      same_run (flat_length c.arrays) (staged_loads c units header) loads (slot_of_index c) (steps_of c.arrays c.instrs) header c.fields long
      (in_order c.fields (length c.arrays) c.instrs (lives c is.staged) (map (λ (f : FlatArray). f.copies) c.arrays) (fitting c is.staged)) agree

  -- ---- 2. flat code on the zeroed cells means the source on them

  ends : EndsAs ℤ (operand_word vals) c.arrays c.instrs c.last lines
  ends =
      let flat = is.means (flat_length c.arrays) loads header (long ∙ is.fields) in
      let by_fields : EndsAs ℤ (operand_value ℤ (words (flat_length c.arrays) loads) (code_values c loads header)) c.arrays c.instrs c.last
      (guard_lines ℤ (words (flat_length c.arrays) loads) (indexes_of ℤ word_ops g.arrays) g.lines (guard_start ℤ (words (flat_length c.arrays) loads) (length g.arrays) header)) =
      subst (λ n. EndsAs ℤ (operand_value ℤ (words (flat_length c.arrays) loads) (flat_values ℤ (words (flat_length c.arrays) loads) n c.arrays c.instrs header)) c.arrays c.instrs c.last
      (guard_lines ℤ (words (flat_length c.arrays) loads) (indexes_of ℤ word_ops g.arrays) g.lines (guard_start ℤ (words (flat_length c.arrays) loads) (length g.arrays) header))) (sym is.fields) flat in
      let by_lengths : EndsAs ℤ (operand_value ℤ (words (flat_length c.arrays) loads) (code_values c loads header)) c.arrays c.instrs c.last lines =
      subst (λ n. EndsAs ℤ (operand_value ℤ (words (flat_length c.arrays) loads) (code_values c loads header)) c.arrays c.instrs c.last
      (guard_lines ℤ (words n loads) (indexes_of ℤ word_ops g.arrays) g.lines (guard_start ℤ (words n loads) (length g.arrays) header))) lengths_same by_fields in
      let same : operand_value ℤ (words (flat_length c.arrays) loads) (code_values c loads header) ≡ operand_word vals =
      λ i x. (operand_is (flat_length c.arrays) loads (code_values c loads header) x ∙ ap (λ env. operand_word env x) (sym values_same)) i in
      subst (λ value. EndsAs ℤ value c.arrays c.instrs c.last lines) same by_lengths

  zeroed_has : HasCells (names_of p) zeroed
  zeroed_has = kept_counts away cells ∙ has

  kept : IsKept g.arrays zeroed done_zeroed lines
  kept = is.keeps header zeroed loads zeroed_has (λ a below t. refl)

  -- the values of an array's guards
  under : (a : ℕ) → map (operand_word vals) (guards_of c.arrays a) ≡ under_of (copy_of lines a)
  under a = sym (guards_at (operand_word vals) c.arrays a) ∙ ap (λ l. slice_index_or l a []) ends.touched ∙ under_at lines.copies a

  touching_any : (a : ℕ) → is_touching c vals a ≡ kept_forms.is_touched (copy_of lines a)
  touching_any a = sym (any_mapped (operand_word vals) (guards_of c.arrays a)) ∙ ap (list_any truth) (under a) ∙ sym (touched_any (copy_of lines a))

  touched_zeroed : (a : ℕ) → is_touching c vals a ≡ slice_index_or done_zeroed.touched a false
  touched_zeroed a = touching_any a ∙ sym (kept.touched a)

  -- ---- 3. no array without a place is touched

  away_untouched : (a : ℕ) → is_none (place_in c header (group_of c a)) ≡ true → is_touching c vals a ≡ false
  away_untouched a none = by_group (group_of c a) refl none where
    absent : (b : Bool) → is_touched c.arrays a ≡ b → group_of c a ≡ None → is_touching c vals a ≡ false
    absent true t grouped = let h = is.grouped a t in absurd (clash h.0 (sym grouped ∙ h.1)) where
      clash : (n : ℕ) → None ≡ Some n → ⊥
      clash n e = cc
    absent false t grouped = ap (is_open vals) (no_guards c a t)

    by_group : (o : Option ℕ) → group_of c a ≡ o → is_none (place_in c header o) ≡ true → is_touching c vals a ≡ false
    by_group None grouped n = absent (is_touched c.arrays a) refl grouped
    by_group (Some h) grouped n =
        let there = group_has c a h grouped in
        is.unplaced (staged_loads c units header) header long h a there.0 (missing (place c header h) n) there.1 where
          missing : (o : Option ℕ) → is_none o ≡ true → o ≡ None
          missing None e = refl
          missing (Some u) e = absurd (cc)

  -- ---- 4. the source on the cells as they are

  frames : Frames away (executed_from p)
  frames = subst (Frames away) (λ i st. is.executes st i) (exec_frames away (indexing p) (numbered_body p))

  all_within : Within away (replicate count false)
  all_within a t =
      let less : nat_lt a count ≡ true = and_front (nat_lt a count) (is_none (place_in c header (group_of c a))) t in
      let marks : length (replicate count false) ≡ count = length_replicate count false in
      grind (arith, nat_tests, less, marks)

  same_store : Same away (untouched p header zeroed).store (untouched p header cells).store
  same_store = record { fields = refl; long = kept_long away cells; cells = placed_row }

  nowhere : (a : ℕ) → away a ≡ true → is_touching c vals a ≡ false
  nowhere a t = away_untouched a (and_back (nat_lt a count) (is_none (place_in c header (group_of c a))) t)

  framed : After away (executed_from p) (untouched p header zeroed) (untouched p header cells)
  framed = frames.after (untouched p header zeroed) (untouched p header cells) same_store refl all_within (λ a t. sym (touched_zeroed a) ∙ nowhere a t)

  touched_same : (a : ℕ) → is_touching c vals a ≡ slice_index_or done.touched a false
  touched_same a = touched_zeroed a ∙ ap (λ l. slice_index_or l a false) framed.touched

  left : After away (executed_from p) (untouched p header cells) (untouched p header cells)
  left = frames.after (untouched p header cells) (untouched p header cells) (record { fields = refl; long = refl; cells = λ a t. refl }) refl all_within (λ a t. sym (touched_same a) ∙ nowhere a t)

  fields_same : last_words c vals ≡ done.store.fields
  fields_same = ends.fields ∙ kept.fields ∙ framed.store.fields

  -- ---- the cells afterwards

  placed_cells : (a : ℕ) → away a ≡ false → cells_at done.store.cells a ≡ kept_forms.cells_after (length_at g.arrays a) (cells_at cells a) (copy_of lines a)
  placed_cells a there = sym (framed.store.cells a there) ∙ kept.cells_are a ∙ ap (λ r. kept_forms.cells_after (length_at g.arrays a) r (copy_of lines a)) (placed_row a there)

  -- an array that isn't touched keeps its cells
  still : (a : ℕ) → is_touching c vals a ≡ false → cells_at done.store.cells a ≡ cells_at cells a
  still a none = cases (away a) refl where
    closed : (o : Option (Copy ℤ)) → kept_forms.is_touched o ≡ false → (row : List ℤ) → kept_forms.cells_after (length_at g.arrays a) row o ≡ row
    closed None t row = refl
    closed (Some k) t row = ap (λ (b : Bool). if b then slice_set row (cell k.index (length_at g.arrays a)) k.latest else row) t

    cases : (b : Bool) → away a ≡ b → cells_at done.store.cells a ≡ cells_at cells a
    cases true t = left.kept a t
    cases false t = placed_cells a t ∙ closed (copy_of lines a) (sym (touching_any a) ∙ none) (cells_at cells a)

  -- the word that an array's Store writes
  abbrev stored : ℕ → ℤ
  stored a = operand_word vals (stored_operand c.instrs a)

  no_map : (xs : List Operand) → is_some xs ≡ true → map (operand_word vals) xs ≡ [] → ⊥
  no_map [] some e = cc
  no_map (x ∷ xs) some e = cc

  -- an array of a group with a place has its Store's word in the cell of its Index
  row_after : (h a u : ℕ) → h < length c.groups → Member a (group_at c h).arrays → place c header h ≡ Some u → cells_at done.store.cells a ≡ slice_set (cells_at cells a) (index a) (stored a)
  row_after h a u below m placed = placed_cells a there ∙ by_copy (copy_of lines a) refl where
    there : away a ≡ false
    there = not_away a u (ap (place_in c header) ((is.staged.groups h below).there a m).1 ∙ placed)

    row : List ℤ
    row = cells_at cells a

    by_copy : (o : Option (Copy ℤ)) → copy_of lines a ≡ o → kept_forms.cells_after (length_at g.arrays a) (cells_at cells a) o ≡ slice_set (cells_at cells a) (index a) (stored a)
    by_copy None e = absurd (no_map (guards_of c.arrays a) (group_touched c is.staged h a below m) (under a ∙ ap under_of e))
    by_copy (Some k) e = by_guards (list_any truth k.under) refl where
      operand_index : operand_value ℤ (words (flat_length c.arrays) (staged_loads c units header)) vals (index_operand c.instrs a) ≡ k.index
      operand_index = operand_is (flat_length c.arrays) (staged_loads c units header) vals (index_operand c.instrs a) ∙ ends.index a k e

      at : index a ≡ cell k.index (length_at g.arrays a)
      at = ap natural (index_value c is.staged h a below m (staged_loads c units header) header long) ∙ (λ i. cell (operand_index i) (lengths_same i a))

      latest : stored a ≡ k.latest
      latest = ap (operand_word vals) (sym (stored_is c.instrs a)) ∙ ends.stored a k e

      unloaded : list_any truth k.under ≡ false → k.latest ≡ loads a (cell k.index (length_at g.arrays a))
      unloaded = subst (Stays (length_at g.arrays) loads (indexes_of ℤ word_ops g.arrays) a) e (lines_stay (length_at g.arrays) loads (indexes_of ℤ word_ops g.arrays) g.lines (length g.arrays) header a)

      by_guards : (b : Bool) → list_any truth k.under ≡ b
          → (if b then slice_set (cells_at cells a) (cell k.index (length_at g.arrays a)) k.latest else cells_at cells a) ≡ slice_set (cells_at cells a) (index a) (stored a)
      by_guards true t = λ i. slice_set (cells_at cells a) (sym at i) (sym latest i)
      by_guards false t =
          let word : stored a ≡ word_at (cells_at cells a) (index a) = latest ∙ unloaded t ∙ (λ i. word_at (placed_row a there i) (sym at i)) in
          sym (ap (slice_set (cells_at cells a) (index a)) word ∙ set-get_or (cells_at cells a) (index a) (pos 0))

  -- each unit is that of the execution's cells
  unit_same : (h u : ℕ) → h < length c.groups → u < unit_count c (group_at c h) → units_after c units header h u ≡ units_of c done.store.cells h u
  unit_same h u below less = by_place (place c header h) refl where
    other : (v : ℕ) → place c header h ≡ Some v → (v ≡ u → ⊥) → units_of c cells h u ≡ units_of c done.store.cells h u
    other v placed apart =
        flat_same (λ a. in_unit (group_at c h) u (cells_at cells a)) (λ a. in_unit (group_at c h) u (cells_at done.store.cells a)) (group_at c h).arrays (λ a m. each a m (group_at c h).sharded refl) where
          each : (a : ℕ) → Member a (group_at c h).arrays → (s : Bool) → (group_at c h).sharded ≡ s
              → (if s then word_at (cells_at cells a) u ∷ [] else cells_at cells a) ≡ (if s then word_at (cells_at done.store.cells a) u ∷ [] else cells_at done.store.cells a)
          each a m true sharded =
              ap (λ z. z ∷ []) (sym (ap (λ r. word_at r u) (row_after h a v below m placed) ∙ get_or-set_other (cells_at cells a) (index a) u (stored a) (pos 0) (λ e. apart (sym (index_own h a v below m placed sharded) ∙ sym e))))
          each a m false whole =
              let zero : v ≡ 0 = zero_place c (header_words c header) (group_at c h) v whole placed in
              let one : u < 1 = subst (λ (b : Bool). u < (if b then flat_length c.arrays (first_array (group_at c h)) else 1)) whole less in
              absurd (apart (omega (arith, zero, one)))

    here : (v : ℕ) → place c header h ≡ Some v → v ≡ u → cells_after c vals (group_at c h) (units_of c cells h u) ≡ units_of c done.store.cells h u
    here v placed same =
        unit_stores (cells_at cells) (flat_length c.arrays) (group_at c h).arrays (member_long h below) (group_at c h).sharded u index stored (distinct 0 (group_at c h).arrays (is.staged.groups h below).rising)
        (λ a m sharded. index_own h a v below m placed sharded ∙ same) (λ a m. index_less h a below m)
        ∙ flat_same (λ a. in_unit (group_at c h) u (slice_set (cells_at cells a) (index a) (stored a))) (λ a. in_unit (group_at c h) u (cells_at done.store.cells a)) (group_at c h).arrays
        (λ a m. ap (in_unit (group_at c h) u) (sym (row_after h a v below m placed)))

    by_place : (o : Option ℕ) → place c header h ≡ o → (if is_place o u then cells_after c vals (group_at c h) (units_of c cells h u) else units_of c cells h u) ≡ units_of c done.store.cells h u
    by_place None placed =
        flat_same (λ a. in_unit (group_at c h) u (cells_at cells a)) (λ a. in_unit (group_at c h) u (cells_at done.store.cells a)) (group_at c h).arrays
        (λ a m. ap (in_unit (group_at c h) u) (sym (still a (is.unplaced (staged_loads c units header) header long h a below placed m))))
    by_place (Some v) placed = elim (eqb_tells v u) [
      | inl t ↦ ap (λ (b : Bool). if b then cells_after c vals (group_at c h) (units_of c cells h u) else units_of c cells h u) t.0 ∙ here v placed t.1
      | inr t ↦ ap (λ (b : Bool). if b then cells_after c vals (group_at c h) (units_of c cells h u) else units_of c cells h u) t.0 ∙ other v placed t.1
    ]

  -- ---- all of it

  pub ends_as_source : EndsAsSource c header cells (staged_values c (units_of c cells) header) (executed_from p (untouched p header cells))
  ends_as_source = record {
    fields = fields_same;
    units = unit_same;
    touched = touched_same;
    unplaced = λ h a below m placed. sym (touched_same a) ∙ is.unplaced (staged_loads c units header) header long h a below placed m;
    ungrouped = λ a none.
        let out : is_touching c vals a ≡ false = away_untouched a (ap (λ o. is_none (place_in c header o)) none) in
        (sym (touched_same a) ∙ out, still a out);
  }

-- on every header and all cells staged code ends as the source does
pub means_source : (p : Program) (g : GuardCode) (c : Staged) → IsStagedOf p g c → MeansSource p c
means_source p g c is header cells long has = ends_as_source p g c is header cells long has
