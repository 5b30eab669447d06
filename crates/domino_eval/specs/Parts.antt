-- What a bench holds, and a state put together from its parts.
use Rattle.std.specs.Prelude.{ℤ, Bool, true, false, List, [], ◌∷◌, map, Option, Some, None, refl}
use Rattle.std.specs.Coded.{Coded, code_by, coded×, coded_list, coded_ℤ}
use Rattle.domino_tree.specs.contracts.program.Program.{the_row as program_row}
use Rattle.domino_tree.specs.declared.program.Program.{Program}
use Rattle.domino_tree.specs.Value.{Store, names_of}
use Rattle.mp5_words.specs.Cells.{word_at}
use Rattle.domino_tree.specs.Execution.{State, Does, Choice, touch, exec}
use Rattle.domino_check.specs.declared.numbered.CheckedStmt.{CheckedStmt}
use Rattle.domino_check.specs.NumberedMeaning.{Indexing, numbered_step}
use Rattle.domino_tree.specs.Sequential.{untouched}

-- a packet's fields, and the cells of each array
abbrev pub store : List ℤ → List (List ℤ) → Store
store fields cells = record { fields = fields; cells = cells }

-- the same, and which arrays are touched
abbrev pub state : List ℤ → List (List ℤ) → List Bool → State
state fields cells touched = record { store = store fields cells; touched = touched }

-- the first three words; 0 past them all
abbrev pub first_words : List ℤ → List ℤ
first_words words = word_at words 0 ∷ word_at words 1 ∷ word_at words 2 ∷ []

-- what the last block of a chain does, where there is one
abbrev pub last_does : Indexing → Option (List CheckedStmt) → Option (List Does)
last_does indexing None = None
last_does indexing (Some body) = Some (map (numbered_step indexing) body)

-- a program, and the cells of its arrays
pub record Held : Type 0 where
  pub program : Program
  pub cells : List (List ℤ)

-- the condition is evaluated, and the block executed where it holds
abbrev pub entered : Bool → Choice → State → State
entered true c s = c.block (touch c.arrays s)
entered false c s = touch c.arrays s

-- the transaction executed on these fields and the bench's cells
abbrev pub executed : Held → List ℤ → State
executed bench fields = exec (names_of bench.program) bench.program.function.body (state fields bench.cells (untouched (names_of bench.program)))

-- a bench is stored as the pair of its parts
abbrev pub held_code : Coded Held
held_code =
    code_by (Program × List (List ℤ)) (coded× program_row.coded (coded_list (coded_list coded_ℤ))) (λ b. (b.program, b.cells)) (λ p. record { program = p.0; cells = p.1 }) (λ _. refl)
