-- The sequential run: the transaction executed on one packet after another, in arrival order.
use Rattle.std.specs.Prelude.{ℕ, ℤ, Bool, false, List, [], ◌∷◌, map, replicate, take}
use Rattle.domino_tree.specs.declared.program.Stmt.{Stmt}
use Rattle.domino_tree.specs.declared.program.Program.{Program}
use Rattle.domino_tree.specs.Value.{Names, Array, names_of}
use Rattle.domino_tree.specs.Execution.{exec}

-- the packets after the transaction and the arrays that each touched, in order of arrival, and the cells at
-- the end
pub record Outcome : Type 0 where
  pub packets : List (List ℤ)
  pub touched : List (List Bool)
  pub cells : List (List ℤ)

-- no array is touched
abbrev pub untouched : Names → List Bool
untouched names = map (λ (d : Array). false) names.arrays

-- the transaction executed on one header after another, from these cells on
abbrev pub run_from : Names → List Stmt → List (List ℤ) → List (List ℤ) → Outcome
run_from names body cells [] = record { packets = []; touched = []; cells = cells }
run_from names body cells (header ∷ headers) =
    let after = exec names body (record { store = record { fields = header; cells = cells }; touched = untouched names }) in
    let others = run_from names body after.store.cells headers in
    record { packets = after.store.fields ∷ others.packets; touched = after.touched ∷ others.touched; cells = others.cells }

-- each cell starts at its array's start value
abbrev pub start_cells : Names → List (List ℤ)
start_cells names = map (λ (d : Array). replicate d.length d.start) names.arrays

-- the sequential run
abbrev pub one : Program → List (List ℤ) → Outcome
one p headers = run_from (names_of p) p.function.body (start_cells (names_of p)) headers

-- the cells after the first t packets
abbrev pub before : Program → List (List ℤ) → ℕ → List (List ℤ)
before p headers t = (one p (take t headers)).cells
