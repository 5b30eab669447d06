-- The run of a bench over headers, and what stands at its end.
use Rattle.std.specs.Prelude.{◌≡◌, ℕ, ℤ, List, length}
use Rattle.std.specs.List.{flat_map}
use Rattle.domino_tree.specs.declared.program.Program.{Program}
use Rattle.domino_tree.specs.Value.{names_of}
use Rattle.domino_tree.specs.Sequential.{Outcome, run_from, one}
use Rattle.domino_eval.specs.Parts.{Held}

-- the transaction of the bench's program executed on one header after another, from its cells on
abbrev pub run_bench : Held → List (List ℤ) → Outcome
run_bench bench headers = run_from (names_of bench.program) bench.program.function.body bench.cells headers

-- how many headers there are; the packets of the program's sequential run over them, one after another in one list of
-- words, and its cells at the end, one array after another in one list of words
pub record IsEnd (program : Program) (headers : List (List ℤ)) (count : ℕ) (words cells : List ℤ) : Type 0 where
  pub arrivals : count ≡ length headers
  pub packets : words ≡ flat_map (λ p. p) (one program headers).packets
  pub registers : cells ≡ flat_map (λ c. c) (one program headers).cells
