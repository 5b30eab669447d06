-- What a body in numbers means, where each array has an index and a length: the value of an expression, and
-- the execution of statements.
use Rattle.std.specs.Prelude.{ℕ, ℤ, pos, List, [], ◌∷◌, ◌++◌, map, flat_map, Option, Some, None, slice_set}
use Rattle.std.specs.List.{slice_index_or}
use Rattle.mp5_words.specs.Words.{op1, op2, truth, cell}
use Rattle.mp5_words.specs.Cells.{word_at, cells_at, cell_set, picked, hash_all, touching}
use Rattle.domino_tree.specs.declared.program.Program.{Program}
use Rattle.domino_tree.specs.Value.{Array, Store, names_of}
use Rattle.domino_tree.specs.Execution.{Does, Choice, in_turn, chosen, exec}
use Rattle.domino_check.specs.declared.numbered.CheckedExpr.{CheckedExpr, fold-CheckedExpr}
use Rattle.domino_check.specs.declared.numbered.CheckedExpr.TheOpen.{CheckedExpr-F}
use Rattle.domino_check.specs.declared.numbered.CheckedStmt.{CheckedStmt, fold-CheckedStmt}
use Rattle.domino_check.specs.declared.numbered.CheckedStmt.TheOpen as open_form
use Rattle.domino_check.specs.declared.numbered.CheckedArm.{CheckedArm, fold-CheckedArm}
use Rattle.domino_check.specs.Numbering.{accesses}
use Rattle.domino_check.specs.Indexes.{index_of}

-- the index of each array, where it is accessed, and how many cells the array has
pub record Indexing : Type 0 where
  pub index : ℕ → Option CheckedExpr
  pub length : ℕ → ℕ

-- the indexes and lengths of a program's arrays
abbrev pub indexing : Program → Indexing
indexing p = record {
  index = index_of (accesses p);
  length = λ array. slice_index_or (map (λ (d : Array). d.length) (names_of p).arrays) array 1;
}

-- ---- the value of an index, in which no array stands

abbrev pub plain_meaning : CheckedExpr-F (List ℤ → ℤ) → List ℤ → ℤ
plain_meaning (CheckedExpr-F.Number n) fields = n
plain_meaning (CheckedExpr-F.Field f) fields = word_at fields f
plain_meaning (CheckedExpr-F.Cell a) fields = pos 0
plain_meaning (CheckedExpr-F.One op a) fields = op1 op (a fields)
plain_meaning (CheckedExpr-F.Two op a b) fields = op2 op (a fields) (b fields)
plain_meaning (CheckedExpr-F.Pick c a b) fields = picked (c fields) (a fields) (b fields)
plain_meaning (CheckedExpr-F.Hash kind args) fields = hash_all kind (map (λ (a : List ℤ → ℤ). a fields) args)

-- the value on the fields alone
abbrev pub plain_value : CheckedExpr → List ℤ → ℤ
plain_value = fold-CheckedExpr (List ℤ → ℤ) plain_meaning

-- the place of the cell that an index names, in an array of so many cells
abbrev pub named_place : Option CheckedExpr → ℕ → List ℤ → ℕ
named_place None length fields = 0
named_place (Some index) length fields = cell (plain_value index fields) length

-- the place of the cell of an array that its index names
abbrev pub place : Indexing → ℕ → List ℤ → ℕ
place indexing array fields = named_place (indexing.index array) (indexing.length array) fields

-- ---- the value of an expression

abbrev pub numbered_meaning : Indexing → CheckedExpr-F (Store → ℤ) → Store → ℤ
numbered_meaning indexing (CheckedExpr-F.Number n) s = n
numbered_meaning indexing (CheckedExpr-F.Field f) s = word_at s.fields f
numbered_meaning indexing (CheckedExpr-F.Cell a) s = word_at (cells_at s.cells a) (place indexing a s.fields)
numbered_meaning indexing (CheckedExpr-F.One op a) s = op1 op (a s)
numbered_meaning indexing (CheckedExpr-F.Two op a b) s = op2 op (a s) (b s)
numbered_meaning indexing (CheckedExpr-F.Pick c a b) s = picked (c s) (a s) (b s)
numbered_meaning indexing (CheckedExpr-F.Hash kind args) s = hash_all kind (map (λ (a : Store → ℤ). a s) args)

abbrev pub numbered_value : Indexing → CheckedExpr → Store → ℤ
numbered_value indexing = fold-CheckedExpr (Store → ℤ) (numbered_meaning indexing)

-- ---- the arrays in an expression

abbrev pub numbered_mentioning : CheckedExpr-F (List ℕ) → List ℕ
numbered_mentioning (CheckedExpr-F.Number n) = []
numbered_mentioning (CheckedExpr-F.Field f) = []
numbered_mentioning (CheckedExpr-F.Cell a) = a ∷ []
numbered_mentioning (CheckedExpr-F.One op a) = a
numbered_mentioning (CheckedExpr-F.Two op a b) = a ++ b
numbered_mentioning (CheckedExpr-F.Pick c a b) = c ++ (a ++ b)
numbered_mentioning (CheckedExpr-F.Hash kind args) = flat_map (λ (a : List ℕ). a) args

abbrev pub numbered_arrays : CheckedExpr → List ℕ
numbered_arrays = fold-CheckedExpr (List ℕ) numbered_mentioning

-- ---- the execution of statements

-- an assignment to a field
abbrev pub set_field : Indexing → ℕ → CheckedExpr → Does
set_field indexing field e s = record {
  store = record { fields = slice_set s.store.fields field (numbered_value indexing e s.store); cells = s.store.cells };
  touched = touching (numbered_arrays e) s.touched;
}

-- an assignment to the cell of an array that its index names
abbrev pub set_cell : Indexing → ℕ → CheckedExpr → Does
set_cell indexing array e s = record {
  store = record { fields = s.store.fields; cells = cell_set s.store.cells array (place indexing array s.store.fields) (numbered_value indexing e s.store) };
  touched = touching (array ∷ numbered_arrays e) s.touched;
}

-- a statement, from its arms and blocks
abbrev pub numbered_doing : Indexing → open_form.CheckedStmt-F Does Choice → Does
numbered_doing indexing (open_form.CheckedStmt-F.SetField f e) s = set_field indexing f e s
numbered_doing indexing (open_form.CheckedStmt-F.SetCell a e) s = set_cell indexing a e s
numbered_doing indexing (open_form.CheckedStmt-F.If arms last) s = chosen arms last s

-- an arm, from its statements
abbrev pub numbered_choosing : Indexing → open_form.CheckedArm-F Does Choice → Choice
numbered_choosing indexing arm = record {
  holds = λ s. truth (numbered_value indexing arm.cond s);
  arrays = numbered_arrays arm.cond;
  block = in_turn arm.body;
}

-- one statement
abbrev pub numbered_step : Indexing → CheckedStmt → Does
numbered_step indexing = fold-CheckedStmt Does Choice (numbered_doing indexing) (numbered_choosing indexing)

-- one arm
abbrev pub numbered_choice : Indexing → CheckedArm → Choice
numbered_choice indexing = fold-CheckedArm Does Choice (numbered_doing indexing) (numbered_choosing indexing)

-- statements in text order
abbrev pub numbered_exec : Indexing → List CheckedStmt → Does
numbered_exec indexing body = in_turn (map (numbered_step indexing) body)

-- the source of a program, executed from a state
abbrev pub executed_from : Program → Does
executed_from p = exec (names_of p) p.function.body
