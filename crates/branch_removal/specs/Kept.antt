-- What guarded lines keep of a program's execution: the fields after it, the cells after it, and which arrays it
-- touched.
use Rattle.std.specs.Prelude.{◌≡◌, ℕ, ◌<◌, ℤ, Bool, true, false, if◌then◌else◌, List, length, slice_set, replicate, Option, Some, None}
use Rattle.std.specs.List.{list_any, slice_index_or}
use Rattle.mp5_words.specs.Words.{truth, cell}
use Rattle.mp5_words.specs.Cells.{word_at, cells_at}
use Rattle.mp5_words.specs.Domain.{Loads, word_ops, words}
use Rattle.mp5_words.specs.Copies.{Copy, latest_of}
use Rattle.domino_tree.specs.declared.program.Program.{Program}
use Rattle.domino_tree.specs.Value.{HasCells, names_of}
use Rattle.domino_tree.specs.Execution.{State}
use Rattle.domino_check.specs.NumberedMeaning.{executed_from}
use Rattle.code_forms.specs.declared.guard.ArrayShape.{ArrayShape}
use Rattle.code_forms.specs.declared.guard.GuardLine.{GuardLine}
use Rattle.code_forms.specs.GuardMeaning.{Guarded, index_at, length_at, index_value, indexes_of, guard_lines, guard_start}

-- what the lines know of an array
abbrev pub copy_of : Guarded ℤ → ℕ → Option (Copy ℤ)
copy_of g a = slice_index_or g.copies a None

-- an array is touched where a guard under which it stands is 1
abbrev pub is_touched : Option (Copy ℤ) → Bool
is_touched None = false
is_touched (Some c) = list_any truth c.under

-- the cells of an array of so many: where it is touched, its latest copy stands in the cell that its index names
abbrev pub cells_after : ℕ → List ℤ → Option (Copy ℤ) → List ℤ
cells_after n row None = row
cells_after n row (Some c) = if list_any truth c.under then slice_set row (cell c.index n) c.latest else row

module _ (shapes : List ArrayShape) where
  -- the index word of an array, on these fields
  abbrev pub index_word : ℕ → List ℤ → ℤ
  index_word a fields = index_value ℤ word_ops (index_at shapes a) fields

  -- the place that it names
  abbrev pub index_place : ℕ → List ℤ → ℕ
  index_place a fields = cell (index_word a fields) (length_at shapes a)

  -- the word of an array's one cell that the transaction works on
  abbrev pub own_cell : ℕ → List ℤ → List (List ℤ) → ℤ
  own_cell a fields cells = word_at (cells_at cells a) (index_place a fields)

  -- from each array that the execution touched, the word of its cell at the start is loaded; what is loaded from any
  -- other array may be any word
  abbrev pub LoadsRight : Loads → List (List ℤ) → State → Type 0
  LoadsRight loads cells end = (a : ℕ) → a < length shapes → slice_index_or end.touched a false ≡ true
      → loads a (index_place a end.store.fields) ≡ own_cell a end.store.fields cells

  -- the lines, on these fields, with these loads
  abbrev pub run_lines : List GuardLine → Loads → List ℤ → Guarded ℤ
  run_lines lines loads fields = guard_lines ℤ (words (length_at shapes) loads) (indexes_of ℤ word_ops shapes) lines
      (guard_start ℤ (words (length_at shapes) loads) (length shapes) fields)

  -- the lines end with the execution's fields, and with its touched arrays and its cells, where it began with these
  -- cells. The latest copy of a touched array is its cell, and each index that was evaluated has its word of the end
  pub record IsKept (cells : List (List ℤ)) (end : State) (g : Guarded ℤ) : Type 0 where
    pub fields : g.fields ≡ end.store.fields
    pub touched : (a : ℕ) → slice_index_or end.touched a false ≡ is_touched (copy_of g a)
    pub cells_are : (a : ℕ) → cells_at end.store.cells a ≡ cells_after (length_at shapes a) (cells_at cells a) (copy_of g a)
    pub copies : (a : ℕ) → a < length shapes → is_touched (copy_of g a) ≡ true → latest_of ℤ word_ops (copy_of g a) ≡ own_cell a end.store.fields end.store.cells
    pub indexes : (a : ℕ) (c : Copy ℤ) → copy_of g a ≡ Some c → c.index ≡ index_word a end.store.fields

-- before an execution no array is touched
abbrev pub untouched : Program → List ℤ → List (List ℤ) → State
untouched p fields cells = record { store = record { fields = fields; cells = cells }; touched = replicate (length (names_of p).arrays) false }

-- for all fields and cells, and with all loads that are right, the lines keep what the program's source does
abbrev pub KeepsMeaning : Program → List ArrayShape → List GuardLine → Type 0
KeepsMeaning p shapes lines = (fields : List ℤ) (cells : List (List ℤ)) (loads : Loads) → HasCells (names_of p) cells
    → LoadsRight shapes loads cells (executed_from p (untouched p fields cells))
    → IsKept shapes cells (executed_from p (untouched p fields cells)) (run_lines shapes lines loads fields)
