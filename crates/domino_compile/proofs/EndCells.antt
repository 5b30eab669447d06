-- How many cells each array has at the end of a run, by the arrays of the compiled code.
use Rattle.std.proofs.Common.{◌≡◌, ℕ, ◌<◌, ℤ, List, [], ◌∷◌, length, map, refl, sym, ap, subst, ◌∙◌}
use Rattle.std.specs.List.{slice_index_or}
use Rattle.std.proofs.lemmas.List.{get_or-map, length-map}
use Rattle.mp5_words.specs.Cells.{cells_at}
use Rattle.domino_tree.specs.declared.program.Stmt.{Stmt}
use Rattle.domino_tree.specs.declared.program.Program.{Program}
use Rattle.domino_tree.specs.Value.{Names, Array, HasCells, names_of}
use Rattle.domino_tree.specs.Execution.{State, exec}
use Rattle.domino_tree.specs.Sequential.{untouched, start_cells, run_from, one}
use Rattle.domino_tree.proofs.ShapeLemmas.{exec_has_cells, start_has_cells}
use Rattle.domino_names.specs.declared.infos.ArrayInfo.{ArrayInfo}
use Rattle.domino_names.specs.Infos.{infos_of, array_of}
use Rattle.domino_names.proofs.InfoLemmas.{infos_are}
use Rattle.code_forms.specs.declared.flat.FlatArray.{FlatArray}
use Rattle.code_forms.specs.FlatMeaning.{flat_length}
use Rattle.code_forms.specs.Staged.{Staged}
use Rattle.domino_compile.specs.Compiled.{IsCompiled}

-- a run keeps the number of cells of each array
run_has_cells : (names : Names) (body : List Stmt) (cells headers : List (List ℤ)) → HasCells names cells → HasCells names (run_from names body cells headers).cells
run_has_cells names body cells [] has = has
run_has_cells names body cells (header ∷ headers) has =
    let before : State = record { store = record { fields = header; cells = cells }; touched = untouched names } in
    run_has_cells names body (exec names body before).store.cells headers (exec_has_cells names body before has)

info_lengths : (infos : List ArrayInfo) → map (λ (d : Array). d.length) (map array_of infos) ≡ map (λ (i : ArrayInfo). i.length) infos
info_lengths [] = refl
info_lengths (x ∷ infos) = ap (λ l. x.length ∷ l) (info_lengths infos)

module _ (p : Program) (c : Staged) (is : IsCompiled p c) (headers : List (List ℤ)) where
  lengths_same : map (λ (row : List ℤ). length row) (one p headers).cells ≡ map (λ (f : FlatArray). f.length) c.arrays
  lengths_same =
      run_has_cells (names_of p) p.function.body (start_cells (names_of p)) headers (start_has_cells (names_of p))
      ∙ ap (map (λ (d : Array). d.length)) (sym (infos_are p)) ∙ info_lengths (infos_of p) ∙ sym is.lengths

  -- there are cells of each array of the code, and of no other
  pub end_arrays : length (one p headers).cells ≡ length c.arrays
  end_arrays =
      sym (length-map (one p headers).cells (λ (row : List ℤ). length row)) ∙ ap length lengths_same ∙ length-map c.arrays (λ (f : FlatArray). f.length)

  -- and as many as the array has
  pub end_length : (a : ℕ) → a < length c.arrays → length (cells_at (one p headers).cells a) ≡ flat_length c.arrays a
  end_length a below =
      sym (get_or-map (λ (row : List ℤ). length row) (one p headers).cells a [] 1 (subst (λ n. a < n) (sym end_arrays) below))
      ∙ ap (λ l. slice_index_or l a 1) lengths_same
