-- That staged code means the source: the units that the cells of a program's arrays make, what the passes keep, and what
-- the code then does as the source does.
use Rattle.std.specs.Prelude.{◌≡◌, ℕ, ◌<◌, ℤ, true, false, if◌then◌else◌, List, [], ◌∷◌, length, flat_map, Some, None}
use Rattle.std.specs.List.{slice_index_or}
use Rattle.mp5_words.specs.Domain.{Loads, words}
use Rattle.mp5_words.specs.Cells.{word_at, cells_at}
use Rattle.domino_tree.specs.declared.program.Program.{Program}
use Rattle.domino_tree.specs.Value.{HasCells, names_of}
use Rattle.domino_tree.specs.Execution.{State}
use Rattle.domino_check.specs.Numbering.{numbered_body}
use Rattle.domino_check.specs.NumberedMeaning.{indexing, numbered_exec, executed_from}
use Rattle.code_forms.specs.declared.guard.GuardCode.{GuardCode}
use Rattle.code_forms.specs.declared.parts.StagedGroup.{StagedGroup}
use Rattle.code_forms.specs.FlatValid.{is_touched}
use Rattle.code_forms.specs.Staged.{Staged, Member, group_at, group_of, unit_count, IsStaged}
use Rattle.code_forms.specs.StagedMeaning.{Units, is_touching, place, staged_values, last_words, units_after, PlacesAreIndexes}
use Rattle.branch_removal.specs.Kept.{KeepsMeaning, untouched}
use Rattle.branch_removal.specs.Shapes.{shapes_of}
use Rattle.ssa_flatten.specs.Flattened.{AreArraysFor, MeansLines}
use Rattle.index_resolve.specs.Places.{NoneTouched}

-- the cells of an array that stand in such a unit: where its group is sharded the one of that number, else all
abbrev pub in_unit : StagedGroup → ℕ → List ℤ → List ℤ
in_unit group u row = if group.sharded then word_at row u ∷ [] else row

-- the units that the cells of all arrays make: in each, one after another, those of each array of its group
abbrev pub units_of : Staged → List (List ℤ) → Units
units_of c cells g u = flat_map (λ a. in_unit (group_at c g) u (cells_at cells a)) (group_at c g).arrays

-- the code is staged code of a program's guarded code: what each pass keeps, each touched array is in a group, and its
-- places are as they should be
pub record IsStagedOf (p : Program) (g : GuardCode) (c : Staged) : Type 0 where
  pub executes : (start : State) → numbered_exec (indexing p) (numbered_body p) start ≡ executed_from p start
  pub shapes : g.arrays ≡ shapes_of p
  pub keeps : KeepsMeaning p g.arrays g.lines
  pub fields : c.fields ≡ g.fields
  pub arrays : AreArraysFor g c.arrays
  pub means : (lengths : ℕ → ℕ) (loads : Loads) → MeansLines ℤ (words lengths loads) g.fields g.arrays g.lines c.arrays c.instrs c.last
  pub grouped : (a : ℕ) → is_touched c.arrays a ≡ true → (n : ℕ) × (group_of c a ≡ Some n)
  pub staged : IsStaged c
  pub places : PlacesAreIndexes c
  pub unplaced : NoneTouched c

-- with these values of all slots the code ends as an execution from these cells: with its fields, cells and touched
-- arrays. Of a group without a place none is touched; an array of no group isn't either, and keeps its cells
pub record EndsAsSource (c : Staged) (header : List ℤ) (cells : List (List ℤ)) (vals : List ℤ) (done : State) : Type 0 where
  pub fields : last_words c vals ≡ done.store.fields
  pub units : (g u : ℕ) → g < length c.groups → u < unit_count c (group_at c g) → units_after c (units_of c cells) header g u ≡ units_of c done.store.cells g u
  pub touched : (a : ℕ) → is_touching c vals a ≡ slice_index_or done.touched a false
  pub unplaced : (g a : ℕ) → g < length c.groups → Member a (group_at c g).arrays → place c header g ≡ None → slice_index_or done.touched a false ≡ false
  pub ungrouped : (a : ℕ) → group_of c a ≡ None → (slice_index_or done.touched a false ≡ false) × (cells_at done.store.cells a ≡ cells_at cells a)

-- on every header of so many words and all cells of the program's arrays, the code ends as the source does
abbrev pub MeansSource : Program → Staged → Type 0
MeansSource p c = (header : List ℤ) (cells : List (List ℤ)) → length header ≡ c.fields → HasCells (names_of p) cells
    → EndsAsSource c header cells (staged_values c (units_of c cells) header) (executed_from p (untouched p header cells))
