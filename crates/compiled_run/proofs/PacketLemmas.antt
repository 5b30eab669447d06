-- How many packets the sequential run ends with, and how many words each has.
use Rattle.std.proofs.Common.{◌≡◌, ◌∙◌, ℕ, zero, suc, ◌<◌, ℤ, List, [], ◌∷◌, length, refl, ap, arith}
use Rattle.std.specs.Prelude.{All}
use Rattle.mp5_words.specs.Cells.{cells_at}
use Rattle.domino_tree.specs.declared.program.Program.{Program}
use Rattle.domino_tree.specs.declared.program.Stmt.{Stmt}
use Rattle.domino_tree.specs.Value.{Names, names_of}
use Rattle.domino_tree.specs.Execution.{State, exec}
use Rattle.domino_tree.specs.Sequential.{start_cells, untouched, run_from, one}
use Rattle.domino_tree.proofs.ShapeLemmas.{exec_keeps}

module _ (names : Names) (body : List Stmt) where
  -- what a header is executed on
  abbrev met : List (List ℤ) → List ℤ → State
  met cells header = record { store = record { fields = header; cells = cells }; touched = untouched names }

  -- the cells after a header
  abbrev next : List (List ℤ) → List ℤ → List (List ℤ)
  next cells header = (exec names body (met cells header)).store.cells

  packet_count : (cells headers : List (List ℤ)) → length (run_from names body cells headers).packets ≡ length headers
  packet_count cells [] = refl
  packet_count cells (header ∷ headers) = ap suc (packet_count (next cells header) headers)

  packets_wide : (width : ℕ) (cells headers : List (List ℤ)) → All (λ header. length header ≡ width) headers
      → (t : ℕ) → t < length headers → length (cells_at (run_from names body cells headers).packets t) ≡ width
  packets_wide width cells [] wide t less = absurd (omega (arith, less))
  packets_wide width cells (header ∷ headers) wide zero less = (exec_keeps names body (met cells header)).0 ∙ wide 0 [] (omega arith)
  packets_wide width cells (header ∷ headers) wide (suc t) less =
      packets_wide width (next cells header) headers (λ k d within. wide (suc k) d (omega (arith, within))) t (omega (arith, less))

-- there is a packet for each header
pub one_count : (p : Program) (headers : List (List ℤ)) → length (one p headers).packets ≡ length headers
one_count p headers = packet_count (names_of p) p.function.body (start_cells (names_of p)) headers

-- each has as many words as its header
pub one_wide : (p : Program) (headers : List (List ℤ)) (width : ℕ) → All (λ header. length header ≡ width) headers
    → (t : ℕ) → t < length headers → length (cells_at (one p headers).packets t) ≡ width
one_wide p headers width wide = packets_wide (names_of p) p.function.body width (start_cells (names_of p)) headers wide
