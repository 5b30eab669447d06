-- The cells of the units after a run are those of the sequential run.
use Rattle.std.proofs.Common.{◌≡◌, ◌∙◌, ℕ, zero, suc, ◌<◌, ◌≤◌, ℤ, Bool, true, false, if◌then◌else◌, List, [], ◌∷◌, ◌++◌, length, take, flat_map, Option, Some, None, refl, sym, ap, arith}
use Rattle.std.proofs.lemmas.List.{take_all, get_or-replicate}
use Rattle.mp5_words.specs.Cells.{word_at, cells_at}
use Rattle.domino_tree.specs.declared.program.Program.{Program}
use Rattle.domino_tree.specs.Sequential.{one}
use Rattle.code_forms.specs.FlatMeaning.{flat_length}
use Rattle.code_forms.specs.Staged.{Staged, Member, group_at, group_of, first_array, unit_count, unit_cell, IsGroup}
use Rattle.code_forms.specs.StagedMeaning.{Units, start_of}
use Rattle.code_forms.specs.OverHeaders.{start_units, units_over}
use Rattle.run_answer.specs.Cells.{unit_with, word_in, words_below, cells_below, all_cells}
use Rattle.domino_compile.specs.Compiled.{IsCompiled}
use Rattle.domino_compile.specs.MeaningRun.{AreWide}
use Rattle.domino_compile.proofs.MeaningGroups.{group_has}
use Rattle.domino_compile.proofs.MeaningRows.{unit_word}
use Rattle.compiled_run.proofs.RowLemmas.{rows_next, words_next}
use Rattle.compiled_run.proofs.GroupLemmas.{compiled_group}
use Rattle.domino_compile.proofs.EndCells.{end_arrays, end_length}

-- ---- words that are those of some cells

module _ (c : Staged) (units : Units) where
  -- the first words of an array are those of its row
  first_words : (a n : ℕ) (row : List ℤ) → n ≤ length row → ((i : ℕ) → i < n → word_in c units (group_of c a) a i ≡ word_at row i) → words_below c units a n ≡ take n row
  first_words a zero row few same = refl
  first_words a (suc n) row few same =
      let before : words_below c units a n ≡ take n row = first_words a n row (omega (arith, few)) (λ i less. same i (omega (arith, less))) in
      let word : word_in c units (group_of c a) a n ≡ word_at row n = same n (omega arith) in
      (λ j. before j ++ word j ∷ []) ∙ sym (words_next row n (omega (arith, few)))

  module _ (cells : List (List ℤ)) (count : length cells ≡ length c.arrays) (long : (a : ℕ) → a < length c.arrays → length (cells_at cells a) ≡ flat_length c.arrays a)
      (same : (a i : ℕ) → a < length c.arrays → i < flat_length c.arrays a → word_in c units (group_of c a) a i ≡ word_at (cells_at cells a) i) where
    -- so are all of them
    array_words : (a : ℕ) → a < length c.arrays → words_below c units a (flat_length c.arrays a) ≡ cells_at cells a
    array_words a less =
        let size : length (cells_at cells a) ≡ flat_length c.arrays a = long a less in
        first_words a (flat_length c.arrays a) (cells_at cells a) (omega (arith, size)) (λ i within. same a i less within)
        ∙ take_all (flat_length c.arrays a) (cells_at cells a) (omega (arith, size))

    -- and the first arrays are the first rows
    first_arrays : (a : ℕ) → a ≤ length c.arrays → cells_below c units a ≡ flat_map (λ row. row) (take a cells)
    first_arrays zero few = refl
    first_arrays (suc a) few =
        let before : cells_below c units a ≡ flat_map (λ row. row) (take a cells) = first_arrays a (omega (arith, few)) in
        let row : words_below c units a (flat_length c.arrays a) ≡ cells_at cells a = array_words a (omega (arith, few)) in
        (λ j. before j ++ row j) ∙ sym (rows_next cells a (omega (arith, few, count)))

    -- then the cells of all arrays are these
    pub all_arrays : all_cells c units ≡ flat_map (λ row. row) cells
    all_arrays = first_arrays (length c.arrays) (omega arith) ∙ ap (flat_map (λ row. row)) (take_all (length c.arrays) cells (omega (arith, count)))

-- ---- the units after a run

-- the cell of an index is in a unit of its group
unit_inside : (c : Staged) (g a i : ℕ) → IsGroup c g → Member a (group_at c g).arrays → i < flat_length c.arrays a → unit_with (group_at c g) i < unit_count c (group_at c g)
unit_inside c g a i is m less = by (group_at c g).sharded refl where
  by : (b : Bool) → (group_at c g).sharded ≡ b → unit_with (group_at c g) i < unit_count c (group_at c g)
  by true e =
      let own : unit_with (group_at c g) i ≡ i = ap (λ (b : Bool). if b then i else 0) e in
      let all : unit_count c (group_at c g) ≡ flat_length c.arrays a = ap (λ (b : Bool). if b then flat_length c.arrays (first_array (group_at c g)) else 1) e ∙ sym (is.even e a m) in
      omega (arith, own, all, less)
  by false e =
      let own : unit_with (group_at c g) i ≡ 0 = ap (λ (b : Bool). if b then i else 0) e in
      let all : unit_count c (group_at c g) ≡ 1 = ap (λ (b : Bool). if b then flat_length c.arrays (first_array (group_at c g)) else 1) e in
      omega (arith, own, all)

module _ (p : Program) (c : Staged) (headers : List (List ℤ)) (is : IsCompiled p c) (wide : AreWide c headers) where
  abbrev cells : List (List ℤ)
  cells = (one p headers).cells

  abbrev units : Units
  units = units_over c (start_units c) headers

  -- a word of an array of a group is the array's in the sequential run
  group_word : (g a i : ℕ) → group_of c a ≡ Some g → i < flat_length c.arrays a → word_in c units (Some g) a i ≡ word_at (cells_at cells a) i
  group_word g a i e less =
      let has = group_has c a g e in
      let group : IsGroup c g = compiled_group p c is g has.0 in
      ap (λ l. word_at l (unit_cell c (group_at c g) a i)) ((is.runs headers wide).units g (unit_with (group_at c g) i) has.0 (unit_inside c g a i group has.1 less))
      ∙ unit_word (cells_at cells) (flat_length c.arrays) (group_at c g).arrays (λ b m. end_length p c is headers b (group.there b m).0)
      (group_at c g).sharded (unit_with (group_at c g) i) i a has.1 (λ s. sym (ap (λ (b : Bool). if b then i else 0) s)) less

  -- and so is one of any array
  array_word : (o : Option ℕ) (a i : ℕ) → group_of c a ≡ o → a < length c.arrays → i < flat_length c.arrays a → word_in c units o a i ≡ word_at (cells_at cells a) i
  array_word None a i e below less =
      sym (ap (λ l. word_at l i) ((is.runs headers wide).rest a below e) ∙ get_or-replicate (flat_length c.arrays a) i (start_of c.arrays a) _ less)
  array_word (Some g) a i e below less = group_word g a i e less

  -- the cells that a run answers are those of the sequential run
  pub run_cells : all_cells c units ≡ flat_map (λ row. row) (one p headers).cells
  run_cells = all_arrays c units cells (end_arrays p c is headers) (end_length p c is headers) (λ a i below less. array_word (group_of c a) a i refl below less)
