-- Expressions and statements in numbers, at each form.
use Rattle.std.proofs.Common.{◌≡◌, ℕ, ℤ, List, [], ◌++◌, map, flat_map, None, Some, sym, ap, ◌∙◌}
use Rattle.mp5_words.specs.declared.op.Op1.{Op1}
use Rattle.mp5_words.specs.declared.op.Op2.{Op2}
use Rattle.domino_tree.specs.declared.expr.Expr.{Expr, fold-roll-Expr}
use Rattle.domino_tree.specs.declared.expr.Expr.TheOpen as F
use Rattle.domino_tree.specs.declared.expr.Expr.TheVariants as e
use Rattle.domino_tree.specs.declared.program.Target.{Target}
use Rattle.domino_tree.specs.declared.program.Stmt.{Stmt, fold-roll-Stmt}
use Rattle.domino_tree.specs.declared.program.Stmt.TheOpen as O
use Rattle.domino_tree.specs.declared.program.Stmt.TheVariants as s
use Rattle.domino_tree.specs.declared.program.Arm.{Arm, fold-roll-Arm}
use Rattle.domino_tree.specs.Value.{Names, number_of, array_number, field_number}
use Rattle.domino_check.specs.declared.numbered.CheckedExpr.TheVariants as expr
use Rattle.domino_check.specs.declared.numbered.CheckedStmt.TheVariants as stmt
use Rattle.domino_check.specs.Numbering.{Access}
use Rattle.domino_check.specs.declared.numbered.CheckedStmt.{CheckedStmt}
use Rattle.domino_check.specs.declared.numbered.CheckedArm.{CheckedArm}
use Rattle.domino_check.specs.Numbering.{Numbered, numbering, in_numbers, numbered, accesses_in, numbered_word, called, numbered_set, access_at, target_accesses, stmt_numbering, arm_numbering, numbered_stmt, numbered_arm, in_turn, stmt_accessing, arm_accessing, stmt_accesses, arm_accesses, block_accesses}

-- ---- expressions

pub in_numbers-Number : (names : Names) (n : ℤ) → in_numbers names (e.Number n) ≡ record { tree = expr.Number n; accesses = [] }
in_numbers-Number names n = ap (in_numbers names) (sym (e.rolls-Number n)) ∙ fold-roll-Expr Numbered (numbering names) (F.Expr-F.Number n)

pub in_numbers-Word : (names : Names) (w : List ℕ) → in_numbers names (e.Word w) ≡ numbered_word (number_of w names.defines) (array_number names w)
in_numbers-Word names w = ap (in_numbers names) (sym (e.rolls-Word w)) ∙ fold-roll-Expr Numbered (numbering names) (F.Expr-F.Word w)

pub in_numbers-Field : (names : Names) (p f : List ℕ) → in_numbers names (e.Field p f) ≡ record { tree = expr.Field (field_number names f); accesses = [] }
in_numbers-Field names p f = ap (in_numbers names) (sym (e.rolls-Field p f)) ∙ fold-roll-Expr Numbered (numbering names) (F.Expr-F.Field p f)

pub in_numbers-Cell : (names : Names) (a : List ℕ) (i : Expr) → in_numbers names (e.Cell a i) ≡ record { tree = expr.Cell (array_number names a); accesses = access_at (array_number names a) (in_numbers names i) }
in_numbers-Cell names a i = ap (in_numbers names) (sym (e.rolls-Cell a i)) ∙ fold-roll-Expr Numbered (numbering names) (F.Expr-F.Cell a i)

pub in_numbers-One : (names : Names) (op : Op1) (a : Expr) → in_numbers names (e.One op a) ≡ record { tree = expr.One op (numbered names a); accesses = accesses_in names a }
in_numbers-One names op a = ap (in_numbers names) (sym (e.rolls-One op a)) ∙ fold-roll-Expr Numbered (numbering names) (F.Expr-F.One op a)

pub in_numbers-Two : (names : Names) (op : Op2) (a b : Expr) → in_numbers names (e.Two op a b) ≡ record { tree = expr.Two op (numbered names a) (numbered names b); accesses = accesses_in names a ++ accesses_in names b }
in_numbers-Two names op a b = ap (in_numbers names) (sym (e.rolls-Two op a b)) ∙ fold-roll-Expr Numbered (numbering names) (F.Expr-F.Two op a b)

pub in_numbers-Pick : (names : Names) (c a b : Expr) → in_numbers names (e.Pick c a b) ≡ record { tree = expr.Pick (numbered names c) (numbered names a) (numbered names b); accesses = accesses_in names c ++ (accesses_in names a ++ accesses_in names b) }
in_numbers-Pick names c a b = ap (in_numbers names) (sym (e.rolls-Pick c a b)) ∙ fold-roll-Expr Numbered (numbering names) (F.Expr-F.Pick c a b)

pub in_numbers-Call : (names : Names) (f : List ℕ) (args : List Expr) → in_numbers names (e.Call f args) ≡ record { tree = expr.Hash (called f) (map (λ (a : Numbered). a.tree) (map (in_numbers names) args)); accesses = flat_map (λ (a : Numbered). a.accesses) (map (in_numbers names) args) }
in_numbers-Call names f args = ap (in_numbers names) (sym (e.rolls-Call f args)) ∙ fold-roll-Expr Numbered (numbering names) (F.Expr-F.Call f args)

pub in_numbers-Group : (names : Names) (a : Expr) → in_numbers names (e.Group a) ≡ in_numbers names a
in_numbers-Group names a = ap (in_numbers names) (sym (e.rolls-Group a)) ∙ fold-roll-Expr Numbered (numbering names) (F.Expr-F.Group a)

-- ---- statements

pub numbered_stmt-Set : (names : Names) (t : Target) (x : Expr) → numbered_stmt names (s.Set t x) ≡ numbered_set names t (numbered names x)
numbered_stmt-Set names t x = ap (numbered_stmt names) (sym (s.rolls-Set t x)) ∙ fold-roll-Stmt CheckedStmt CheckedArm (stmt_numbering names) (arm_numbering names) (O.Stmt-F.Set t x)

pub numbered_stmt-If : (names : Names) (arms : List Arm) → numbered_stmt names (s.If arms None) ≡ stmt.If (map (numbered_arm names) arms) None
numbered_stmt-If names arms = ap (numbered_stmt names) (sym (s.rolls-If arms None)) ∙ fold-roll-Stmt CheckedStmt CheckedArm (stmt_numbering names) (arm_numbering names) (O.Stmt-F.If arms None)

pub numbered_stmt-Else : (names : Names) (arms : List Arm) (body : List Stmt) → numbered_stmt names (s.If arms (Some body)) ≡ stmt.If (map (numbered_arm names) arms) (Some (map (numbered_stmt names) body))
numbered_stmt-Else names arms body = ap (numbered_stmt names) (sym (s.rolls-If arms (Some body))) ∙ fold-roll-Stmt CheckedStmt CheckedArm (stmt_numbering names) (arm_numbering names) (O.Stmt-F.If arms (Some body))

pub numbered_arm-Arm : (names : Names) (cond : Expr) (body : List Stmt) → numbered_arm names (record { cond = cond; body = body }) ≡ record { cond = numbered names cond; body = map (numbered_stmt names) body }
numbered_arm-Arm names cond body = fold-roll-Arm CheckedStmt CheckedArm (stmt_numbering names) (arm_numbering names) (record { cond = cond; body = body })

-- ---- the accesses in statements

pub stmt_accesses-Set : (names : Names) (t : Target) (x : Expr) → stmt_accesses names (s.Set t x) ≡ target_accesses names t ++ accesses_in names x
stmt_accesses-Set names t x = ap (stmt_accesses names) (sym (s.rolls-Set t x)) ∙ fold-roll-Stmt (List Access) (List Access) (stmt_accessing names) (arm_accessing names) (O.Stmt-F.Set t x)

pub stmt_accesses-If : (names : Names) (arms : List Arm) → stmt_accesses names (s.If arms None) ≡ in_turn (map (arm_accesses names) arms) ++ []
stmt_accesses-If names arms = ap (stmt_accesses names) (sym (s.rolls-If arms None)) ∙ fold-roll-Stmt (List Access) (List Access) (stmt_accessing names) (arm_accessing names) (O.Stmt-F.If arms None)

pub stmt_accesses-Else : (names : Names) (arms : List Arm) (body : List Stmt) → stmt_accesses names (s.If arms (Some body)) ≡ in_turn (map (arm_accesses names) arms) ++ block_accesses names body
stmt_accesses-Else names arms body = ap (stmt_accesses names) (sym (s.rolls-If arms (Some body))) ∙ fold-roll-Stmt (List Access) (List Access) (stmt_accessing names) (arm_accessing names) (O.Stmt-F.If arms (Some body))

pub arm_accesses-Arm : (names : Names) (cond : Expr) (body : List Stmt) → arm_accesses names (record { cond = cond; body = body }) ≡ accesses_in names cond ++ block_accesses names body
arm_accesses-Arm names cond body = fold-roll-Arm (List Access) (List Access) (stmt_accessing names) (arm_accessing names) (record { cond = cond; body = body })
