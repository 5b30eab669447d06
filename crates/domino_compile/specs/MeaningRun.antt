-- What staged code does on headers, one after another, and that it is what the source does on them.
use Rattle.std.specs.Prelude.{◌≡◌, ℕ, ◌<◌, ℤ, false, List, [], length, replicate, All, None}
use Rattle.std.specs.List.{slice_index_or}
use Rattle.mp5_words.specs.Cells.{cells_at}
use Rattle.domino_tree.specs.declared.program.Program.{Program}
use Rattle.domino_tree.specs.Sequential.{one}
use Rattle.code_forms.specs.FlatMeaning.{flat_length}
use Rattle.code_forms.specs.Staged.{Staged, group_at, group_of, unit_count}
use Rattle.code_forms.specs.StagedMeaning.{is_touching, last_words, start_of}
use Rattle.code_forms.specs.OverHeaders.{start_units, units_over, values_at}
use Rattle.domino_compile.specs.MeaningKept.{units_of}

-- each header has a word for each field
abbrev pub AreWide : Staged → List (List ℤ) → Type 0
AreWide c headers = All (λ header. length header ≡ c.fields) headers

-- on these headers the code ends with the packets and the cells of the sequential run, and each arrival touches the same
-- arrays; in an array of no group each cell keeps its start value
pub record RunsAsSource (p : Program) (c : Staged) (headers : List (List ℤ)) : Type 0 where
  pub packets : (t : ℕ) → t < length headers → last_words c (values_at c (start_units c) headers t) ≡ slice_index_or (one p headers).packets t []
  pub touched : (t a : ℕ) → t < length headers → is_touching c (values_at c (start_units c) headers t) a ≡ slice_index_or (slice_index_or (one p headers).touched t []) a false
  pub units : (g u : ℕ) → g < length c.groups → u < unit_count c (group_at c g) → units_over c (start_units c) headers g u ≡ units_of c (one p headers).cells g u
  pub rest : (a : ℕ) → a < length c.arrays → group_of c a ≡ None
      → cells_at (one p headers).cells a ≡ replicate (flat_length c.arrays a) (start_of c.arrays a)
