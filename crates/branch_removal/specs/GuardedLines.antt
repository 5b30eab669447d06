-- The guarded lines of a body in numbers.
use Rattle.std.specs.Prelude.{ℕ, suc, ◌+◌, List, [], ◌∷◌, ◌++◌, map, sum, Option, Some, None}
use Rattle.domino_check.specs.declared.numbered.CheckedExpr.{CheckedExpr, fold-CheckedExpr}
use Rattle.domino_check.specs.declared.numbered.CheckedExpr.TheOpen.{CheckedExpr-F}
use Rattle.domino_check.specs.declared.numbered.CheckedStmt.{CheckedStmt, fold-CheckedStmt}
use Rattle.domino_check.specs.declared.numbered.CheckedStmt.TheOpen as open_form
use Rattle.domino_check.specs.declared.numbered.CheckedArm.{CheckedArm, fold-CheckedArm}
use Rattle.code_forms.specs.declared.guard.GuardExpr.{GuardExpr}
use Rattle.code_forms.specs.declared.guard.GuardExpr.TheVariants as g
use Rattle.code_forms.specs.declared.guard.GuardLine.{GuardLine}
use Rattle.code_forms.specs.declared.guard.GuardLine.TheVariants as line

-- ---- expressions

-- a form of guarded code, from its operands
abbrev pub guarding : CheckedExpr-F GuardExpr → GuardExpr
guarding (CheckedExpr-F.Number n) = g.Number n
guarding (CheckedExpr-F.Field f) = g.Field f
guarding (CheckedExpr-F.Cell a) = g.Cell a
guarding (CheckedExpr-F.One op a) = g.One op a
guarding (CheckedExpr-F.Two op a b) = g.Two op a b
guarding (CheckedExpr-F.Pick c a b) = g.Pick c a b
guarding (CheckedExpr-F.Hash kind args) = g.Hash kind args

-- the same expression in guarded code
abbrev pub guarded : CheckedExpr → GuardExpr
guarded = fold-CheckedExpr GuardExpr guarding

-- the same of an index, where there is one
abbrev pub guarded_index : Option CheckedExpr → Option GuardExpr
guarded_index None = None
guarded_index (Some index) = Some (guarded index)

-- ---- lines

-- lines, and the number of the next guard
pub record Made : Type 0 where
  pub lines : List GuardLine
  pub next : ℕ

-- the lines under a guard, from the number of the next guard on
abbrev pub Emits : Type 0
Emits = ℕ → ℕ → Made

-- these lines before those
abbrev pub before : List GuardLine → Made → Made
before lines made = record { lines = lines ++ made.lines; next = made.next }

-- one after another, under one guard
abbrev pub block_lines : List Emits → Emits
block_lines [] under next = record { lines = []; next = next }
block_lines (d ∷ ds) under next = before (d under next).lines (block_lines ds under (d under next).next)

-- the last block, where there is one
abbrev pub last_lines : Option (List Emits) → Emits
last_lines None under next = record { lines = []; next = next }
last_lines (Some body) under next = block_lines body under next

-- each further condition, and the last block, is under the second guard of the condition before
abbrev pub chain_lines : List Emits → Option (List Emits) → Emits
chain_lines [] last under next = last_lines last under next
chain_lines (arm ∷ arms) last under next = before (arm under next).lines (chain_lines arms last (suc next) (arm under next).next)

-- a statement, from its arms and blocks
abbrev pub emitting : open_form.CheckedStmt-F Emits Emits → Emits
emitting (open_form.CheckedStmt-F.SetField f e) under next = record { lines = line.SetField f under (guarded e) ∷ []; next = next }
emitting (open_form.CheckedStmt-F.SetCell a e) under next = record { lines = line.SetCell a under (guarded e) ∷ []; next = next }
emitting (open_form.CheckedStmt-F.If arms last) under next = chain_lines arms last under next

-- an arm: its test, which makes the next two guards, and its block under the first of them
abbrev pub arm_emitting : open_form.CheckedArm-F Emits Emits → Emits
arm_emitting arm under next = before (line.Test (guarded arm.cond) under next (suc next) ∷ []) (block_lines arm.body next (suc (suc next)))

-- the lines of a statement
abbrev pub stmt_lines : CheckedStmt → Emits
stmt_lines = fold-CheckedStmt Emits Emits emitting arm_emitting

-- the lines of an arm
abbrev pub arm_lines : CheckedArm → Emits
arm_lines = fold-CheckedArm Emits Emits emitting arm_emitting

-- the lines of statements, one after another
abbrev pub block : List CheckedStmt → Emits
block body = block_lines (map stmt_lines body)

-- the lines of arms, and of the block that stands for none of them
abbrev pub arms_then : List CheckedArm → Option (List Emits) → Emits
arms_then arms last = chain_lines (map arm_lines arms) last

-- the lines of a body, under guard 0
abbrev pub body_lines : List CheckedStmt → List GuardLine
body_lines body = (block body 0 1).lines

-- ---- how many guards

-- those of the last block, where there is one
abbrev pub last_guards : Option (List ℕ) → ℕ
last_guards None = 0
last_guards (Some body) = sum body

-- a statement, from its arms and blocks
abbrev pub stmt_guarding : open_form.CheckedStmt-F ℕ ℕ → ℕ
stmt_guarding (open_form.CheckedStmt-F.SetField f e) = 0
stmt_guarding (open_form.CheckedStmt-F.SetCell a e) = 0
stmt_guarding (open_form.CheckedStmt-F.If arms last) = sum arms + last_guards last

-- an arm, from its statements
abbrev pub arm_guarding : open_form.CheckedArm-F ℕ ℕ → ℕ
arm_guarding arm = 2 + sum arm.body

-- how many guards the tests of a statement make
abbrev pub guards_in : CheckedStmt → ℕ
guards_in = fold-CheckedStmt ℕ ℕ stmt_guarding arm_guarding

-- how many those of a block make
abbrev pub block_guards : List CheckedStmt → ℕ
block_guards body = sum (map guards_in body)

-- how many an arm makes
abbrev pub arm_guards : CheckedArm → ℕ
arm_guards = fold-CheckedArm ℕ ℕ stmt_guarding arm_guarding
