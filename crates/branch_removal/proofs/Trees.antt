-- Guarded expressions and lines at each form of a body in numbers.
use Rattle.std.proofs.Common.{◌≡◌, ℕ, suc, ℤ, List, [], ◌∷◌, map, None, Some, sym, ap, ◌∙◌}
use Rattle.mp5_words.specs.declared.op.Op1.{Op1}
use Rattle.mp5_words.specs.declared.op.Op2.{Op2}
use Rattle.mp5_words.specs.declared.hashing.HashKind.{HashKind}
use Rattle.domino_check.specs.declared.numbered.CheckedExpr.{CheckedExpr, fold-roll-CheckedExpr}
use Rattle.domino_check.specs.declared.numbered.CheckedExpr.TheOpen as F
use Rattle.domino_check.specs.declared.numbered.CheckedExpr.TheVariants as e
use Rattle.domino_check.specs.declared.numbered.CheckedStmt.{CheckedStmt, fold-roll-CheckedStmt}
use Rattle.domino_check.specs.declared.numbered.CheckedArm.{CheckedArm, fold-roll-CheckedArm}
use Rattle.domino_check.specs.declared.numbered.CheckedStmt.TheOpen as O
use Rattle.domino_check.specs.declared.numbered.CheckedStmt.TheVariants as s
use Rattle.code_forms.specs.declared.guard.GuardExpr.{GuardExpr}
use Rattle.code_forms.specs.declared.guard.GuardExpr.TheVariants as g
use Rattle.code_forms.specs.declared.guard.GuardLine.TheVariants as line
use Rattle.branch_removal.specs.GuardedLines.{guarding, guarded, Emits, before, block_lines, chain_lines, emitting, arm_emitting, stmt_lines, arm_lines}

-- ---- guarded expressions

pub guarded-Number : (n : ℤ) → guarded (e.Number n) ≡ g.Number n
guarded-Number n = ap guarded (sym (e.rolls-Number n)) ∙ fold-roll-CheckedExpr GuardExpr guarding (F.CheckedExpr-F.Number n)

pub guarded-Field : (f : ℕ) → guarded (e.Field f) ≡ g.Field f
guarded-Field f = ap guarded (sym (e.rolls-Field f)) ∙ fold-roll-CheckedExpr GuardExpr guarding (F.CheckedExpr-F.Field f)

pub guarded-Cell : (a : ℕ) → guarded (e.Cell a) ≡ g.Cell a
guarded-Cell a = ap guarded (sym (e.rolls-Cell a)) ∙ fold-roll-CheckedExpr GuardExpr guarding (F.CheckedExpr-F.Cell a)

pub guarded-One : (op : Op1) (a : CheckedExpr) → guarded (e.One op a) ≡ g.One op (guarded a)
guarded-One op a = ap guarded (sym (e.rolls-One op a)) ∙ fold-roll-CheckedExpr GuardExpr guarding (F.CheckedExpr-F.One op a)

pub guarded-Two : (op : Op2) (a b : CheckedExpr) → guarded (e.Two op a b) ≡ g.Two op (guarded a) (guarded b)
guarded-Two op a b = ap guarded (sym (e.rolls-Two op a b)) ∙ fold-roll-CheckedExpr GuardExpr guarding (F.CheckedExpr-F.Two op a b)

pub guarded-Pick : (c a b : CheckedExpr) → guarded (e.Pick c a b) ≡ g.Pick (guarded c) (guarded a) (guarded b)
guarded-Pick c a b = ap guarded (sym (e.rolls-Pick c a b)) ∙ fold-roll-CheckedExpr GuardExpr guarding (F.CheckedExpr-F.Pick c a b)

pub guarded-Hash : (kind : HashKind) (args : List CheckedExpr) → guarded (e.Hash kind args) ≡ g.Hash kind (map guarded args)
guarded-Hash kind args = ap guarded (sym (e.rolls-Hash kind args)) ∙ fold-roll-CheckedExpr GuardExpr guarding (F.CheckedExpr-F.Hash kind args)

-- ---- the lines at each form

pub lines-SetField : (f : ℕ) (x : CheckedExpr) (u n : ℕ) → stmt_lines (s.SetField f x) u n ≡ record { lines = line.SetField f u (guarded x) ∷ []; next = n }
lines-SetField f x u n = ap (λ y. stmt_lines y u n) (sym (s.rolls-SetField f x)) ∙ ap (λ (em : Emits). em u n) (fold-roll-CheckedStmt Emits Emits emitting arm_emitting (O.CheckedStmt-F.SetField f x))

pub lines-SetCell : (a : ℕ) (x : CheckedExpr) (u n : ℕ) → stmt_lines (s.SetCell a x) u n ≡ record { lines = line.SetCell a u (guarded x) ∷ []; next = n }
lines-SetCell a x u n = ap (λ y. stmt_lines y u n) (sym (s.rolls-SetCell a x)) ∙ ap (λ (em : Emits). em u n) (fold-roll-CheckedStmt Emits Emits emitting arm_emitting (O.CheckedStmt-F.SetCell a x))

pub lines-If : (arms : List CheckedArm) (u n : ℕ) → stmt_lines (s.If arms None) u n ≡ chain_lines (map arm_lines arms) None u n
lines-If arms u n = ap (λ y. stmt_lines y u n) (sym (s.rolls-If arms None)) ∙ ap (λ (em : Emits). em u n) (fold-roll-CheckedStmt Emits Emits emitting arm_emitting (O.CheckedStmt-F.If arms None))

pub lines-Else : (arms : List CheckedArm) (body : List CheckedStmt) (u n : ℕ) → stmt_lines (s.If arms (Some body)) u n ≡ chain_lines (map arm_lines arms) (Some (map stmt_lines body)) u n
lines-Else arms body u n = ap (λ y. stmt_lines y u n) (sym (s.rolls-If arms (Some body))) ∙ ap (λ (em : Emits). em u n) (fold-roll-CheckedStmt Emits Emits emitting arm_emitting (O.CheckedStmt-F.If arms (Some body)))

pub lines-Arm : (cond : CheckedExpr) (body : List CheckedStmt) (u n : ℕ) → arm_lines (record { cond = cond; body = body }) u n ≡ before (line.Test (guarded cond) u n (suc n) ∷ []) (block_lines (map stmt_lines body) n (suc (suc n)))
lines-Arm cond body u n = ap (λ (em : Emits). em u n) (fold-roll-CheckedArm Emits Emits emitting arm_emitting (record { cond = cond; body = body }))
