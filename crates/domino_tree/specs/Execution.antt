-- The execution of a transaction on one packet: the fields after it, the cells after it, and which arrays it
-- touched.
use Rattle.std.specs.Prelude.{ℕ, ℤ, Bool, if◌then◌else◌, List, [], ◌∷◌, ◌++◌, map, Option, Some, None, slice_set}
use Rattle.mp5_words.specs.Words.{truth}
use Rattle.mp5_words.specs.Cells.{touching, cell_set}
use Rattle.domino_tree.specs.declared.expr.Expr.{Expr}
use Rattle.domino_tree.specs.declared.program.Target.{Target}
use Rattle.domino_tree.specs.declared.program.Target.TheVariants as target
use Rattle.domino_tree.specs.declared.program.Stmt.{Stmt, fold-Stmt}
use Rattle.domino_tree.specs.declared.program.Stmt.TheOpen as open_form
use Rattle.domino_tree.specs.declared.program.Arm.{Arm, fold-Arm}
use Rattle.domino_tree.specs.Value.{Names, Store, value, arrays_in, array_number, field_number, index_place}

-- the fields and cells, and for each array whether it was touched
pub record State : Type 0 where
  pub store : Store
  pub touched : List Bool

-- what an execution does to a state
abbrev pub Does : Type 0
Does = State → State

abbrev pub touch : List ℕ → Does
touch arrays s = record s { touched = touching arrays s.touched }

-- fields and cells after a target is given a word
abbrev pub assigned : Names → Target → ℤ → Store → Store
assigned names (target.Word w) z s = record s { cells = cell_set s.cells (array_number names w) 0 z }
assigned names (target.Field p f) z s = record s { fields = slice_set s.fields (field_number names f) z }
assigned names (target.Cell a i) z s = record s { cells = cell_set s.cells (array_number names a) (index_place names a (value names i s)) z }

-- the arrays that stand in a target
abbrev pub target_arrays : Names → Target → List ℕ
target_arrays names (target.Word w) = array_number names w ∷ []
target_arrays names (target.Field p f) = []
target_arrays names (target.Cell a i) = array_number names a ∷ arrays_in names i

-- an arm: whether its condition holds, the arrays in the condition, and its block
pub record Choice : Type 0 where
  pub holds : Store → Bool
  pub arrays : List ℕ
  pub block : Does

-- one after another
abbrev pub in_turn : List Does → Does
in_turn [] s = s
in_turn (d ∷ ds) s = in_turn ds (d s)

-- the last block, where there is one
abbrev pub at_last : Option (List Does) → Does
at_last None s = s
at_last (Some body) s = in_turn body s

-- the conditions are evaluated, and their arrays touched, up to the first that holds: its block is executed
-- alone. The last block is, where none holds.
abbrev pub chosen : List Choice → Option (List Does) → Does
chosen [] last s = at_last last s
chosen (c ∷ cs) last s = if c.holds s.store then c.block (touch c.arrays s) else chosen cs last (touch c.arrays s)

-- an assignment evaluates its right side, writes its target, and touches the arrays on both sides
abbrev pub set_target : Names → Target → Expr → Does
set_target names t e s = record {
  store = assigned names t (value names e s.store) s.store;
  touched = touching (target_arrays names t ++ arrays_in names e) s.touched;
}

-- a statement, from its arms and blocks
abbrev pub doing : Names → open_form.Stmt-F Does Choice → Does
doing names (open_form.Stmt-F.Set t e) s = set_target names t e s
doing names (open_form.Stmt-F.If arms last) s = chosen arms last s

-- an arm, from its statements
abbrev pub choosing : Names → open_form.Arm-F Does Choice → Choice
choosing names arm = record {
  holds = λ s. truth (value names arm.cond s);
  arrays = arrays_in names arm.cond;
  block = in_turn arm.body;
}

-- one statement
abbrev pub step : Names → Stmt → Does
step names = fold-Stmt Does Choice (doing names) (choosing names)

-- one arm
abbrev pub choice : Names → Arm → Choice
choice names = fold-Arm Does Choice (doing names) (choosing names)

-- the statements in text order
abbrev pub exec : Names → List Stmt → Does
exec names body = in_turn (map (step names) body)
