-- A run keeps the number of cells of each array.
use Rattle.std.proofs.Common.{◌≡◌, ℤ, List, [], ◌∷◌, length, map, refl, sym, ap, subst, ◌∙◌}
use Rattle.domino_tree.specs.declared.program.Stmt.{Stmt}
use Rattle.domino_tree.specs.declared.program.Program.{Program}
use Rattle.domino_tree.specs.Value.{Names, Array, HasCells, names_of, cell_counts}
use Rattle.domino_tree.specs.Execution.{State, exec}
use Rattle.domino_tree.specs.Sequential.{start_cells, untouched, run_from}
use Rattle.domino_tree.proofs.ShapeLemmas.{lengths, exec_keeps, start_has_cells}
use Rattle.domino_eval.specs.Parts.{Held}
use Rattle.switch_runner.specs.Running.{run_bench}
use Rattle.domino_names.specs.declared.infos.ArrayInfo.{ArrayInfo}
use Rattle.domino_names.specs.Infos.{infos_of, array_of}
use Rattle.domino_names.proofs.InfoLemmas.{infos_are}

module _ (names : Names) where
  -- what a header is executed on
  abbrev met : List (List ℤ) → List ℤ → State
  met cells header = record { store = record { fields = header; cells = cells }; touched = untouched names }

  pub run-cells : (body : List Stmt) (cells headers : List (List ℤ)) → lengths (run_from names body cells headers).cells ≡ lengths cells
  run-cells body cells [] = refl
  run-cells body cells (header ∷ headers) =
      let after : State = exec names body (met cells header) in
      run-cells body after.store.cells headers ∙ (exec_keeps names body (met cells header)).1

-- a bench has the cells of its program, after a run from the start values on too
pub bench-cells : (p : Program) (bench after : Held) (headers : List (List ℤ)) → bench ≡ record { program = p; cells = start_cells (names_of p) }
    → after ≡ record { program = bench.program; cells = (run_bench bench headers).cells }
    → HasCells (names_of after.program) after.cells
bench-cells p bench after headers begins ends =
    let start : Held = record { program = p; cells = start_cells (names_of p) } in
    let has : HasCells (names_of p) (run_bench start headers).cells = run-cells (names_of p) p.function.body (start_cells (names_of p)) headers ∙ start_has_cells (names_of p) in
    subst (λ (b : Held). HasCells (names_of b.program) b.cells) (sym ends) (subst (λ (b : Held). HasCells (names_of b.program) (run_bench b headers).cells) (sym begins) has)

counts_are : (infos : List ArrayInfo) → map (λ (d : Array). d.length) (map array_of infos) ≡ map (λ (i : ArrayInfo). i.length) infos
counts_are [] = refl
counts_are (i ∷ infos) = ap (λ l. i.length ∷ l) (counts_are infos)

-- the program declares as many cells as its arrays have
pub declared-cells : (p : Program) → cell_counts (names_of p) ≡ map (λ (i : ArrayInfo). i.length) (infos_of p)
declared-cells p = ap (λ (l : List Array). map (λ (d : Array). d.length) l) (sym (infos_are p)) ∙ counts_are (infos_of p)
