-- From words in one list back to the packets and the cells of the sequential run.
use Rattle.std.proofs.Common.{◌≡◌, ◌∙◌, ◌<◌, ◌+◌, ◌*◌, ℕ, suc, ℤ, List, [], ◌∷◌, ◌++◌, length, map, take, drop, refl, sym, ap, arith, length-append}
use Rattle.std.specs.Prelude.{All}
use Rattle.std.specs.List.{flat_map}
use Rattle.std.proofs.Math.Seq.{take-append_seam, drop-append_seam}
use Rattle.std.proofs.lemmas.List.Sums.{sum_by-cons}
use Rattle.mp5_words.specs.Cells.{cells_at}
use Rattle.capture_io.specs.Rows.{rows}
use Rattle.domino_tree.specs.declared.program.Stmt.{Stmt}
use Rattle.domino_tree.specs.declared.program.Program.{Program}
use Rattle.domino_tree.specs.Value.{Names, Array, HasCells, names_of}
use Rattle.domino_tree.specs.Execution.{State, exec}
use Rattle.domino_tree.specs.Sequential.{untouched, start_cells, run_from, one}
use Rattle.domino_tree.proofs.ShapeLemmas.{exec_has_cells, start_has_cells}
use Rattle.domino_names.specs.declared.infos.ArrayInfo.{ArrayInfo}
use Rattle.domino_names.specs.Infos.{infos_of, array_of}
use Rattle.domino_names.proofs.InfoLemmas.{infos_are}
use Rattle.compiled_run.specs.SourceRun.{packet_words, cell_words}
use Rattle.compiled_run.proofs.PacketLemmas.{one_count, one_wide}
use Rattle.report_text.specs.Report.{cell_count, cells_in}

-- ---- rows of one width

-- one row and the others
rows-step : (row rest : List ℤ) (n width : ℕ) → length row ≡ width → rows (suc n) width (row ++ rest) ≡ row ∷ rows n width rest
rows-step row rest n width wide =
    ap (λ w. rows (suc n) w (row ++ rest)) (sym wide)
    ∙ ap (λ l. l ∷ rows n (length row) (drop (length row) (row ++ rest))) (take-append_seam row rest)
    ∙ ap (λ l. row ∷ rows n (length row) l) (drop-append_seam row rest)
    ∙ ap (λ w. row ∷ rows n w rest) wide

rows-back : (width : ℕ) (ps : List (List ℤ)) → ((t : ℕ) → t < length ps → length (cells_at ps t) ≡ width) → rows (length ps) width (flat_map (λ row. row) ps) ≡ ps
rows-back width [] wide = refl
rows-back width (p ∷ ps) wide =
    rows-step p (flat_map (λ row. row) ps) (length ps) width (wide 0 (omega arith))
    ∙ ap (λ l. p ∷ l) (rows-back width ps (λ t less. wide (suc t) (omega (arith, less))))

rows-flat : (width : ℕ) (ps : List (List ℤ)) → ((t : ℕ) → t < length ps → length (cells_at ps t) ≡ width) → length (flat_map (λ row. row) ps) ≡ length ps * width
rows-flat width [] wide = omega arith
rows-flat width (p ∷ ps) wide =
    let first : length p ≡ width = wide 0 (omega arith) in
    let rest = rows-flat width ps (λ t less. wide (suc t) (omega (arith, less))) in
    omega (arith, length-append p (flat_map (λ row. row) ps), first, rest)

-- ---- rows of the arrays' lengths

abbrev AreCells : List ArrayInfo → List (List ℤ) → Type 0
AreCells infos cells = map (λ (row : List ℤ). length row) cells ≡ map (λ (i : ArrayInfo). i.length) infos

cells-back : (infos : List ArrayInfo) (cells : List (List ℤ)) → AreCells infos cells → cells_in infos (flat_map (λ row. row) cells) ≡ cells
cells-back [] [] e = refl
cells-back [] (c ∷ cells) e = absurd (let f : ⊥ = cc in f)
cells-back (i ∷ infos) [] e = absurd (let f : ⊥ = cc in f)
cells-back (i ∷ infos) (c ∷ cells) e =
    let same : length c ≡ i.length = cc in
    let rest : List ℤ = flat_map (λ row. row) cells in
    ap (λ k. take k (c ++ rest) ∷ cells_in infos (drop k (c ++ rest))) (sym same)
    ∙ ap (λ l. l ∷ cells_in infos (drop (length c) (c ++ rest))) (take-append_seam c rest)
    ∙ ap (λ l. c ∷ cells_in infos l) (drop-append_seam c rest)
    ∙ ap (λ l. c ∷ l) (cells-back infos cells (let f : AreCells infos cells = cc in f))

cells-flat : (infos : List ArrayInfo) (cells : List (List ℤ)) → AreCells infos cells → length (flat_map (λ row. row) cells) ≡ cell_count infos
cells-flat [] [] e = refl
cells-flat [] (c ∷ cells) e = absurd (let f : ⊥ = cc in f)
cells-flat (i ∷ infos) [] e = absurd (let f : ⊥ = cc in f)
cells-flat (i ∷ infos) (c ∷ cells) e =
    let same : length c ≡ i.length = cc in
    let rest = cells-flat infos cells (let f : AreCells infos cells = cc in f) in
    let all : cell_count (i ∷ infos) ≡ i.length + cell_count infos = sum_by-cons (λ (x : ArrayInfo). x.length) i infos in
    omega (arith, length-append c (flat_map (λ row. row) cells), same, rest, all)

-- ---- of the sequential run

-- a run keeps the number of cells of each array
run-has-cells : (names : Names) (body : List Stmt) (cells headers : List (List ℤ)) → HasCells names cells → HasCells names (run_from names body cells headers).cells
run-has-cells names body cells [] has = has
run-has-cells names body cells (header ∷ headers) has =
    let before : State = record { store = record { fields = header; cells = cells }; touched = untouched names } in
    run-has-cells names body (exec names body before).store.cells headers (exec_has_cells names body before has)

declared : (infos : List ArrayInfo) → map (λ (d : Array). d.length) (map array_of infos) ≡ map (λ (i : ArrayInfo). i.length) infos
declared [] = refl
declared (i ∷ infos) = ap (λ l. i.length ∷ l) (declared infos)

-- each array has as many cells as it is declared with
end-cells : (p : Program) (headers : List (List ℤ)) → AreCells (infos_of p) (one p headers).cells
end-cells p headers =
    run-has-cells (names_of p) p.function.body (start_cells (names_of p)) headers (start_has_cells (names_of p))
    ∙ ap (map (λ (d : Array). d.length)) (sym (infos_are p))
    ∙ declared (infos_of p)

pub cells-told : (p : Program) (headers : List (List ℤ)) → cells_in (infos_of p) (cell_words p headers) ≡ (one p headers).cells
cells-told p headers = cells-back (infos_of p) (one p headers).cells (end-cells p headers)

pub cells-counted : (p : Program) (headers : List (List ℤ)) → length (cell_words p headers) ≡ cell_count (infos_of p)
cells-counted p headers = cells-flat (infos_of p) (one p headers).cells (end-cells p headers)

module _ (p : Program) (headers : List (List ℤ)) (wide : All (λ header. length header ≡ length p.packet.fields) headers) where
  -- each packet has a word for each field
  row-wide : (t : ℕ) → t < length (one p headers).packets → length (cells_at (one p headers).packets t) ≡ length p.packet.fields
  row-wide t less = one_wide p headers (length p.packet.fields) wide t (let count = one_count p headers in omega (arith, less, count))

  pub packets-told : rows (length headers) (length p.packet.fields) (packet_words p headers) ≡ (one p headers).packets
  packets-told =
      ap (λ n. rows n (length p.packet.fields) (packet_words p headers)) (sym (one_count p headers))
      ∙ rows-back (length p.packet.fields) (one p headers).packets row-wide

  pub packets-counted : length (packet_words p headers) ≡ length headers * length p.packet.fields
  packets-counted =
      rows-flat (length p.packet.fields) (one p headers).packets row-wide
      ∙ ap (λ n. n * length p.packet.fields) (one_count p headers)
