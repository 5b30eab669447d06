-- The guarded code of a program is valid, and keeps what the program does.
use Rattle.std.proofs.Common.{◌≡◌, ℕ, zero, suc, ◌+◌, ◌^◌, ◌<◌, ◌≤◌, ℤ, pos, negsuc, Bool, true, false, ◌&&◌, if◌then◌else◌, nat_lt, nat_le, List, [], ◌∷◌, length, map, sum, replicate, get_or, slice_set, Option, None, Some, refl, sym, ap, subst, ◌∙◌, arith, get_or-set_same}
use Rattle.std.specs.List.{fold, list_all}
use Rattle.std.proofs.Math.Nat.{mod-lt}
use Rattle.std.proofs.lemmas.Bool.Decides.{nat_tests}
use Rattle.std.proofs.lemmas.List.{length-map}
use Rattle.mp5_words.specs.Words.{cell}
use Rattle.mp5_words.specs.Cells.{word_at, cells_at, touching}
use Rattle.mp5_words.specs.Copies.{Copy, latest_of}
use Rattle.mp5_words.specs.Domain.{Loads, word_ops}
use Rattle.domino_tree.specs.declared.program.Program.{Program}
use Rattle.domino_tree.specs.Count.{count_of}
use Rattle.domino_tree.specs.Execution.{State}
use Rattle.domino_tree.specs.Value.{Array, HasCells, names_of}
use Rattle.domino_names.specs.declared.infos.ArrayInfo.{ArrayInfo}
use Rattle.domino_check.specs.declared.numbered.CheckedStmt.{CheckedStmt}
use Rattle.domino_check.specs.Accepted.{AreSized, Keeps}
use Rattle.domino_names.specs.Infos.{infos_of}
use Rattle.domino_check.specs.NumberedMeaning.{indexing, place, numbered_exec, executed_from}
use Rattle.domino_check.specs.Numbering.{numbered_body}
use Rattle.domino_check.specs.Refused.{Passes}
use Rattle.domino_check.specs.Sites.{Site, program_indexes, program_sites}
use Rattle.domino_check.proofs.Agreement.{agreement}
use Rattle.domino_check.proofs.BodyCountLemmas.{count_agrees}
use Rattle.domino_names.proofs.InfoLemmas.{length-infos}
use Rattle.domino_check.proofs.CheckedLemmas as checked
use Rattle.domino_check.proofs.FitLemmas.{body_is_fit}
use Rattle.domino_check.proofs.SiteLemmas.{touched_by, touched_at}
use Rattle.code_forms.specs.declared.guard.ArrayShape.{ArrayShape}
use Rattle.code_forms.specs.declared.guard.GuardLine.{GuardLine}
use Rattle.code_forms.specs.declared.guard.GuardLine.TheVariants as line
use Rattle.code_forms.specs.GuardMeaning.{Guarded, index_at, length_at}
use Rattle.code_forms.specs.GuardValid.{arrays_in, line_arrays, line_count, line_fits, stay, no_marks, touched_in, shapes_fit, guard_count, cells_in, is_limited, is_guard_code}
use Rattle.branch_removal.specs.GuardedLines.{guarded_index, body_lines, guards_in}
use Rattle.branch_removal.specs.Kept as kept
use Rattle.branch_removal.specs.Kept.{KeepsMeaning, IsKept, cells_after, copy_of, run_lines, untouched}
use Rattle.branch_removal.specs.Shapes.{shapes_of}
use Rattle.branch_removal.proofs.Copies.{spot, word_of, AtArray, RightLoads}
use Rattle.branch_removal.proofs.Guards.{lines_ordered, lines_behind}
use Rattle.branch_removal.proofs.Keeps as found
use Rattle.branch_removal.proofs.LineCounts.{counts_same, guards_bound}
use Rattle.branch_removal.proofs.LineFits.{lines_fit}
use Rattle.branch_removal.proofs.LineSites.{Part, of_line, of_site, parts_same}
use Rattle.branch_removal.proofs.LineStays.{length-touched, lines_stay}
use Rattle.branch_removal.proofs.Places.{all_places}
use Rattle.branch_removal.proofs.ShapeLemmas.{shapes_long, lengths_are, length_same, index_same, shape_counts, shapes_fine}

-- ---- which arrays the lines touch

abbrev by_part : List Bool → Part → List Bool
by_part marks x = touching x.touches marks

lines_touch : (lines : List GuardLine) (marks : List Bool) → fold (λ (m : List Bool) (l : GuardLine). touching (line_arrays l) m) marks lines ≡ fold by_part marks (map of_line lines)
lines_touch [] marks = refl
lines_touch (line.Test cond under holds fails ∷ lines) marks = lines_touch lines (touching (arrays_in cond) marks)
lines_touch (line.SetField f guard value ∷ lines) marks = lines_touch lines (touching (arrays_in value) marks)
lines_touch (line.SetCell a guard value ∷ lines) marks = lines_touch lines (touching (a ∷ arrays_in value) marks)

sites_touch : (sites : List Site) (marks : List Bool) → fold by_part marks (map of_site sites) ≡ fold (λ (m : List Bool) (s : Site). touching s.touches m) marks sites
sites_touch [] marks = refl
sites_touch (x ∷ sites) marks = sites_touch sites (touching x.touches marks)

-- ---- places are within

cell_below : (z : ℤ) (n : ℕ) → 1 ≤ n → cell z n < n
cell_below (pos a) n some = mod-lt a (omega (arith, some))
cell_below (negsuc a) n some = omega (arith, some)

sized_at : (infos : List ArrayInfo) (a : ℕ) → AreSized infos → 1 ≤ get_or (map (λ (i : ArrayInfo). i.length) infos) a 1
sized_at [] a sized = omega arith
sized_at (x ∷ infos) zero sized = sized.0.0
sized_at (x ∷ infos) (suc a) sized = sized_at infos a sized.1

row_long : (cells : List (List ℤ)) (a : ℕ) → a < length cells → get_or (map (λ (c : List ℤ). length c) cells) a 1 ≡ length (cells_at cells a)
row_long [] a within = absurd (omega (arith, within))
row_long (c ∷ cells) zero within = refl
row_long (c ∷ cells) (suc a) within = row_long cells a (omega (arith, within))

-- ---- what is kept of an array, from how its copy and its cells stand to each other

module _ (shapes : List ArrayShape) (loads : Loads) (cells0 : List (List ℤ)) (a : ℕ) (fields row : List ℤ) where
  touched_told : (t : Bool) (c : Option (Copy ℤ)) → AtArray shapes loads cells0 a fields row t c → t ≡ kept.is_touched c
  touched_told true None h = elim h [ ]
  touched_told true (Some c) h = sym h.1
  touched_told false None h = refl
  touched_told false (Some c) h = sym h.1

  abbrev chosen_row : Copy ℤ → Bool → List ℤ
  chosen_row c b = if b then slice_set (cells_at cells0 a) (cell c.index (length_at shapes a)) c.latest else cells_at cells0 a

  row_told : (t : Bool) (c : Option (Copy ℤ)) → AtArray shapes loads cells0 a fields row t c → row ≡ cells_after (length_at shapes a) (cells_at cells0 a) c
  row_told true None h = elim h [ ]
  row_told true (Some c) h = h.2 ∙ (λ i. slice_set (cells_at cells0 a) (cell (sym h.0 i) (length_at shapes a)) c.latest) ∙ ap (chosen_row c) (sym h.1)
  row_told false None h = h
  row_told false (Some c) h = h.2 ∙ ap (chosen_row c) (sym h.1)

  latest_told : (t : Bool) (c : Option (Copy ℤ)) → spot shapes loads cells0 a fields < length (cells_at cells0 a) → AtArray shapes loads cells0 a fields row t c → kept.is_touched c ≡ true → latest_of ℤ word_ops c ≡ word_at row (spot shapes loads cells0 a fields)
  latest_told true None roomy h on = elim h [ ]
  latest_told true (Some c) roomy h on = sym (get_or-set_same (cells_at cells0 a) (spot shapes loads cells0 a fields) c.latest (pos 0) roomy) ∙ ap (λ r. word_at r (spot shapes loads cells0 a fields)) (sym h.2)
  latest_told false None roomy h on = absurd cc
  latest_told false (Some c) roomy h on = absurd (untrue (sym h.1 ∙ on)) where
    untrue : false ≡ true → ⊥
    untrue e = cc

  index_told : (t : Bool) (c : Copy ℤ) → AtArray shapes loads cells0 a fields row t (Some c) → c.index ≡ word_of shapes loads cells0 a fields
  index_told true c h = h.0
  index_told false c h = h.0

-- ---- programs

module _ (p : Program) (passes : Passes p) (keeps : Keeps p) where
  abbrev shapes : List ArrayShape
  shapes = shapes_of p

  abbrev body : List CheckedStmt
  body = numbered_body p

  abbrev lines : List GuardLine
  lines = body_lines body

  abbrev width : ℕ
  width = length p.packet.fields

  long : length shapes ≡ length (names_of p).arrays
  long = shapes_long p ∙ length-infos p

  fit : list_all (line_fits width (length shapes)) lines ≡ true
  fit = ap (λ n. list_all (line_fits width n) lines) long ∙ lines_fit width (length (names_of p).arrays) body (body_is_fit p passes.names)

  index_in_table : (a : ℕ) → a < length shapes → index_at shapes a ≡ guarded_index (get_or (program_indexes p) a None)
  index_in_table a within =
      index_same p passes.names a
      ∙ ap guarded_index (sym (checked.index_at p (program_indexes p) a refl (subst (λ n. a < n) (shapes_long p) within)).1)

  still : stay shapes (no_marks shapes) lines ≡ true
  still = lines_stay (program_indexes p) shapes (length shapes) index_in_table lines (program_sites p) (parts_same body) passes.indexes.still

  marks_are : touched_in shapes lines ≡ touched_by (length shapes) (program_sites p)
  marks_are = lines_touch lines (no_marks shapes) ∙ ap (fold by_part (no_marks shapes)) (parts_same body) ∙ sites_touch (program_sites p) (no_marks shapes)

  shapes_are_fine : shapes_fit width (touched_in shapes lines) shapes ≡ true
  shapes_are_fine =
      ap (λ m. shapes_fit width m shapes) marks_are
      ∙ shapes_fine p passes.names keeps.indexed keeps.sized (touched_by (length shapes) (program_sites p))
      (length-touched (length shapes) (program_sites p) ∙ shapes_long p)
      (λ a within. touched_at a (length shapes) (program_sites p) (subst (λ n. a < n) (sym (shapes_long p)) within))

  count_is : guard_count shapes lines ≡ count_of p
  count_is = (λ i. sum (counts_same body i) + sum (shape_counts p i)) ∙ count_agrees p passes.names keeps.indexed

  limited : is_limited width shapes ≡ true
  limited =
      let few_fields : nat_le width 32 ≡ true = grind (arith, nat_tests, keeps.few_fields) in
      let few_arrays : nat_le (length shapes) 16 ≡ true = grind (arith, nat_tests, keeps.few, shapes_long p) in
      let few_cells : nat_le (cells_in shapes) 262144 ≡ true = grind (arith, nat_tests, keeps.few_cells, ap sum (lengths_are p)) in
      λ i. few_fields i && (few_arrays i && few_cells i)

  -- the made code is valid
  pub valid_code : count_of p ≤ 4294967295 → is_guard_code width shapes lines ≡ true
  valid_code most =
      let small : nat_lt (guard_count shapes lines) (2 ^ 32) ≡ true = grind (arith, nat_tests, most, count_is) in
      λ i. limited i && (shapes_are_fine i && (fit i && (lines_ordered body i && (still i && small i))))

  -- and its guards' numbers are words
  pub few_guards : count_of p ≤ 4294967295 → 1 + sum (map guards_in body) ≤ 4294967295
  few_guards most =
      let all : sum (map line_count lines) ≤ guard_count shapes lines = omega arith in
      guards_bound body (lines_behind body) (omega (arith, all, count_is, most))

  -- ---- its meaning

  module _ (cells : List (List ℤ)) (counts : HasCells (names_of p) cells) (loads : Loads) where
    cells_long : length cells ≡ length shapes
    cells_long = sym (length-map cells (λ (c : List ℤ). length c)) ∙ ap length counts ∙ length-map (names_of p).arrays (λ (d : Array). d.length) ∙ sym long

    roomy : (a : ℕ) (fields : List ℤ) → a < length shapes → spot shapes loads cells a fields < length (cells_at cells a)
    roomy a fields within =
        let row : length_at shapes a ≡ length (cells_at cells a) = length_same p a ∙ ap (λ l. get_or l a 1) (sym counts) ∙ row_long cells a (subst (λ n. a < n) (sym cells_long) within) in
        let some : 1 ≤ length_at shapes a = subst (λ l. 1 ≤ get_or l a 1) (sym (lengths_are p)) (sized_at (infos_of p) a keeps.sized) in
        subst (λ n. spot shapes loads cells a fields < n) row (cell_below (word_of shapes loads cells a fields) (length_at shapes a) some)

    places : (a : ℕ) (fields : List ℤ) → place (indexing p) a fields ≡ spot shapes loads cells a fields
    places = all_places shapes loads cells (indexing p) (index_same p passes.names) (length_same p)

    is_kept : (end : State) (g : Guarded ℤ) → found.Kept shapes loads cells end g → IsKept shapes cells end g
    is_kept end g all = record {
      fields = all.fields;
      touched = λ a. touched_told shapes loads cells a end.store.fields (cells_at end.store.cells a) (get_or end.touched a false) (copy_of g a) (all.arrays a);
      cells_are = λ a. row_told shapes loads cells a end.store.fields (cells_at end.store.cells a) (get_or end.touched a false) (copy_of g a) (all.arrays a);
      copies = λ a within on. latest_told shapes loads cells a end.store.fields (cells_at end.store.cells a) (get_or end.touched a false) (copy_of g a) (roomy a end.store.fields within) (all.arrays a) on;
      indexes = λ a c is. index_told shapes loads cells a end.store.fields (cells_at end.store.cells a) (get_or end.touched a false) c
          (subst (AtArray shapes loads cells a end.store.fields (cells_at end.store.cells a) (get_or end.touched a false)) is (all.arrays a));
    }

    at_end : (fields : List ℤ) → numbered_exec (indexing p) body (found.started shapes loads cells fields) ≡ executed_from p (untouched p fields cells)
    at_end fields =
        ap (λ n. numbered_exec (indexing p) body (record { store = record { fields = fields; cells = cells }; touched = replicate n false })) long
        ∙ agreement p passes.names keeps.indexed (untouched p fields cells)

  pub keeps_meaning : KeepsMeaning p shapes lines
  keeps_meaning fields cells loads counts right =
      let end : State = executed_from p (untouched p fields cells) in
      let g : Guarded ℤ = run_lines shapes lines loads fields in
      let same = at_end cells counts loads fields in
      is_kept cells counts loads end g
      (subst (λ (s : State). found.Kept shapes loads cells s g) same
      (found.keeps shapes loads cells (indexing p) body fields width fit still (places cells counts loads) (cells_long cells counts loads) (roomy cells counts loads)
      (subst (RightLoads shapes loads cells) (sym same) right)))
