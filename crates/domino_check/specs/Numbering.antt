-- A program's body in numbers, and the accesses of arrays in it, in text order.
use Rattle.std.specs.Prelude.{ℕ, ℤ, pos, List, [], ◌∷◌, ◌++◌, map, flat_map, Option, Some, None}
use Rattle.mp5_words.specs.declared.hashing.HashKind.{HashKind}
use Rattle.mp5_words.specs.declared.hashing.HashKind.TheVariants.{Two}
use Rattle.domino_tree.specs.declared.expr.Expr.{Expr, fold-Expr}
use Rattle.domino_tree.specs.declared.expr.Expr.TheOpen.{Expr-F}
use Rattle.domino_tree.specs.declared.program.Target.{Target}
use Rattle.domino_tree.specs.declared.program.Target.TheVariants as target
use Rattle.domino_tree.specs.declared.program.Stmt.{Stmt, fold-Stmt}
use Rattle.domino_tree.specs.declared.program.Stmt.TheOpen as open_form
use Rattle.domino_tree.specs.declared.program.Arm.{Arm, fold-Arm}
use Rattle.domino_tree.specs.declared.program.Program.{Program}
use Rattle.domino_tree.specs.Value.{Names, names_of, number_of, field_number, array_number, hash_kind}
use Rattle.domino_check.specs.declared.numbered.CheckedExpr.{CheckedExpr}
use Rattle.domino_check.specs.declared.numbered.CheckedExpr.TheVariants as expr
use Rattle.domino_check.specs.declared.numbered.CheckedStmt.{CheckedStmt}
use Rattle.domino_check.specs.declared.numbered.CheckedStmt.TheVariants as stmt
use Rattle.domino_check.specs.declared.numbered.CheckedArm.{CheckedArm}

-- ---- expressions

-- an access of an array: the array's number, and its index in numbers; none where an array stands in it
pub record Access : Type 0 where
  pub array : ℕ
  pub index : Option CheckedExpr

-- an expression in numbers, and the accesses of arrays in it
pub record Numbered : Type 0 where
  pub tree : CheckedExpr
  pub accesses : List Access

-- the index of an access, unless an array stands in it
abbrev pub plain_index : CheckedExpr → List Access → Option CheckedExpr
plain_index tree [] = Some tree
plain_index tree (a ∷ accesses) = None

-- the access of a register, whose index is 0
abbrev pub register_at : ℕ → Access
register_at array = record { array = array; index = Some (expr.Number (pos 0)) }

-- the access of an array at an index, and then those in the index
abbrev pub access_at : ℕ → Numbered → List Access
access_at array index = record { array = array; index = plain_index index.tree index.accesses } ∷ index.accesses

-- a defined name is its number; another word is a register, whose index is 0
abbrev pub numbered_word : Option ℤ → ℕ → Numbered
numbered_word (Some n) array = record { tree = expr.Number n; accesses = [] }
numbered_word None array = record { tree = expr.Cell array; accesses = register_at array ∷ [] }

-- a word among these names
abbrev pub word_in : Names → List ℕ → Numbered
word_in names w = numbered_word (number_of w names.defines) (array_number names w)

-- the hash function, where there is one; the checks let no other name be called
abbrev pub or_two : Option HashKind → HashKind
or_two None = Two
or_two (Some kind) = kind

-- the hash function that a call names
abbrev pub called : List ℕ → HashKind
called name = or_two (hash_kind name)

-- a form in numbers, from its operands; the access of an array stands before those in its index
abbrev pub numbering : Names → Expr-F Numbered → Numbered
numbering names (Expr-F.Number n) = record { tree = expr.Number n; accesses = [] }
numbering names (Expr-F.Word w) = numbered_word (number_of w names.defines) (array_number names w)
numbering names (Expr-F.Field p f) = record { tree = expr.Field (field_number names f); accesses = [] }
numbering names (Expr-F.Cell a i) = record { tree = expr.Cell (array_number names a); accesses = access_at (array_number names a) i }
numbering names (Expr-F.One op a) = record { tree = expr.One op a.tree; accesses = a.accesses }
numbering names (Expr-F.Two op a b) = record { tree = expr.Two op a.tree b.tree; accesses = a.accesses ++ b.accesses }
numbering names (Expr-F.Pick c a b) = record { tree = expr.Pick c.tree a.tree b.tree; accesses = c.accesses ++ (a.accesses ++ b.accesses) }
numbering names (Expr-F.Call f args) = record {
  tree = expr.Hash (called f) (map (λ (a : Numbered). a.tree) args);
  accesses = flat_map (λ (a : Numbered). a.accesses) args;
}
numbering names (Expr-F.Group a) = a

-- an expression in numbers, with its accesses
abbrev pub in_numbers : Names → Expr → Numbered
in_numbers names = fold-Expr Numbered (numbering names)

-- an expression in numbers
abbrev pub numbered : Names → Expr → CheckedExpr
numbered names e = (in_numbers names e).tree

-- the accesses of arrays in an expression
abbrev pub accesses_in : Names → Expr → List Access
accesses_in names e = (in_numbers names e).accesses

-- ---- statements

-- an assignment in numbers
abbrev pub numbered_set : Names → Target → CheckedExpr → CheckedStmt
numbered_set names (target.Word w) value = stmt.SetCell (array_number names w) value
numbered_set names (target.Field p f) value = stmt.SetField (field_number names f) value
numbered_set names (target.Cell a i) value = stmt.SetCell (array_number names a) value

-- a statement in numbers, from its arms and blocks
abbrev pub stmt_numbering : Names → open_form.Stmt-F CheckedStmt CheckedArm → CheckedStmt
stmt_numbering names (open_form.Stmt-F.Set t e) = numbered_set names t (numbered names e)
stmt_numbering names (open_form.Stmt-F.If arms last) = stmt.If arms last

-- an arm in numbers, from its statements
abbrev pub arm_numbering : Names → open_form.Arm-F CheckedStmt CheckedArm → CheckedArm
arm_numbering names arm = record { cond = numbered names arm.cond; body = arm.body }

-- a statement in numbers
abbrev pub numbered_stmt : Names → Stmt → CheckedStmt
numbered_stmt names = fold-Stmt CheckedStmt CheckedArm (stmt_numbering names) (arm_numbering names)

-- an arm in numbers
abbrev pub numbered_arm : Names → Arm → CheckedArm
numbered_arm names = fold-Arm CheckedStmt CheckedArm (stmt_numbering names) (arm_numbering names)

-- ---- the accesses of arrays in statements

-- these accesses, one list after another
abbrev pub in_turn : List (List Access) → List Access
in_turn lists = flat_map (λ (l : List Access). l) lists

-- the accesses in the last block, where there is one
abbrev pub in_last : Option (List (List Access)) → List Access
in_last None = []
in_last (Some body) = in_turn body

-- the accesses in a target; they stand before those in the right side
abbrev pub target_accesses : Names → Target → List Access
target_accesses names (target.Word w) = register_at (array_number names w) ∷ []
target_accesses names (target.Field p f) = []
target_accesses names (target.Cell a i) = access_at (array_number names a) (in_numbers names i)

-- the accesses in a statement, from those in its arms and blocks
abbrev pub stmt_accessing : Names → open_form.Stmt-F (List Access) (List Access) → List Access
stmt_accessing names (open_form.Stmt-F.Set t e) = target_accesses names t ++ accesses_in names e
stmt_accessing names (open_form.Stmt-F.If arms last) = in_turn arms ++ in_last last

-- the accesses in an arm, from those in its statements
abbrev pub arm_accessing : Names → open_form.Arm-F (List Access) (List Access) → List Access
arm_accessing names arm = accesses_in names arm.cond ++ in_turn arm.body

-- the accesses in a statement
abbrev pub stmt_accesses : Names → Stmt → List Access
stmt_accesses names = fold-Stmt (List Access) (List Access) (stmt_accessing names) (arm_accessing names)

-- the accesses in an arm
abbrev pub arm_accesses : Names → Arm → List Access
arm_accesses names = fold-Arm (List Access) (List Access) (stmt_accessing names) (arm_accessing names)

-- the accesses in statements, in text order
abbrev pub block_accesses : Names → List Stmt → List Access
block_accesses names body = in_turn (map (stmt_accesses names) body)

-- ---- programs

-- the body of a program in numbers
abbrev pub numbered_body : Program → List CheckedStmt
numbered_body p = map (numbered_stmt (names_of p)) p.function.body

-- the accesses of arrays in the body of a program, in text order
abbrev pub accesses : Program → List Access
accesses p = block_accesses (names_of p) p.function.body
