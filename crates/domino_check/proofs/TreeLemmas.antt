-- Induction over trees in numbers.
use Rattle.std.proofs.Common.{ℕ, ℤ, List, map, None, Some, sym, subst}
use Rattle.mp5_words.specs.declared.op.Op1.{Op1}
use Rattle.mp5_words.specs.declared.op.Op2.{Op2}
use Rattle.mp5_words.specs.declared.hashing.HashKind.{HashKind}
use Rattle.domino_tree.proofs.ExprLemmas.{Each, each_part}
use Rattle.domino_check.specs.declared.numbered.CheckedExpr.{CheckedExpr, ind-CheckedExpr, roll-CheckedExpr, map-CheckedExpr}
use Rattle.domino_check.specs.declared.numbered.CheckedExpr.TheOpen as F
use Rattle.domino_check.specs.declared.numbered.CheckedExpr.TheVariants as e
use Rattle.domino_check.specs.declared.numbered.CheckedStmt.{CheckedStmt, ind-CheckedStmt, roll-CheckedStmt, map-CheckedStmt}
use Rattle.domino_check.specs.declared.numbered.CheckedArm.{CheckedArm, roll-CheckedArm, map-CheckedArm}
use Rattle.domino_check.specs.declared.numbered.CheckedStmt.TheOpen as O
use Rattle.domino_check.specs.declared.numbered.CheckedStmt.TheVariants as s

module _ (P : CheckedExpr → Type 0)
    (number : (n : ℤ) → P (e.Number n))
    (field : (f : ℕ) → P (e.Field f))
    (cell : (a : ℕ) → P (e.Cell a))
    (one : (op : Op1) (a : CheckedExpr) → P a → P (e.One op a))
    (two : (op : Op2) (a b : CheckedExpr) → P a → P b → P (e.Two op a b))
    (pick : (c a b : CheckedExpr) → P c → P a → P b → P (e.Pick c a b))
    (hash : (kind : HashKind) (args : List CheckedExpr) → Each P args → P (e.Hash kind args)) where
  by_form : {S : Type 0} (part : S → CheckedExpr) (held : (s : S) → P (part s)) (y : F.CheckedExpr-F S) → P (roll-CheckedExpr (map-CheckedExpr S CheckedExpr part y))
  by_form part held (F.CheckedExpr-F.Number n) = subst P (sym (e.rolls-Number n)) (number n)
  by_form part held (F.CheckedExpr-F.Field f) = subst P (sym (e.rolls-Field f)) (field f)
  by_form part held (F.CheckedExpr-F.Cell a) = subst P (sym (e.rolls-Cell a)) (cell a)
  by_form part held (F.CheckedExpr-F.One op a) = subst P (sym (e.rolls-One op (part a))) (one op (part a) (held a))
  by_form part held (F.CheckedExpr-F.Two op a b) = subst P (sym (e.rolls-Two op (part a) (part b))) (two op (part a) (part b) (held a) (held b))
  by_form part held (F.CheckedExpr-F.Pick c a b) = subst P (sym (e.rolls-Pick (part c) (part a) (part b))) (pick (part c) (part a) (part b) (held c) (held a) (held b))
  by_form part held (F.CheckedExpr-F.Hash kind args) = subst P (sym (e.rolls-Hash kind (map part args))) (hash kind (map part args) (each_part P part held args))

  -- what holds of each form if it holds of the expressions in it holds of all expressions
  pub expr_induct : (x : CheckedExpr) → P x
  expr_induct x = ind-CheckedExpr P (λ d y h. subst (λ (d : F.CheckedExpr-F CheckedExpr). P (roll-CheckedExpr d)) h (by_form (λ s. s.0) (λ s. s.1) y)) x

module _ (P : CheckedStmt → Type 0) (Q : CheckedArm → Type 0)
    (set_field : (f : ℕ) (x : CheckedExpr) → P (s.SetField f x))
    (set_cell : (a : ℕ) (x : CheckedExpr) → P (s.SetCell a x))
    (chain : (arms : List CheckedArm) → Each Q arms → P (s.If arms None))
    (chain_else : (arms : List CheckedArm) (body : List CheckedStmt) → Each Q arms → Each P body → P (s.If arms (Some body)))
    (arm : (cond : CheckedExpr) (body : List CheckedStmt) → Each P body → Q (record { cond = cond; body = body })) where
  by_stmt : {S T : Type 0} (part : S → CheckedStmt) (held : (d : S) → P (part d)) (branch : T → CheckedArm) (kept : (d : T) → Q (branch d)) (y : O.CheckedStmt-F S T) → P (roll-CheckedStmt (map-CheckedStmt S T CheckedStmt CheckedArm part branch y))
  by_stmt part held branch kept (O.CheckedStmt-F.SetField f x) = subst P (sym (s.rolls-SetField f x)) (set_field f x)
  by_stmt part held branch kept (O.CheckedStmt-F.SetCell a x) = subst P (sym (s.rolls-SetCell a x)) (set_cell a x)
  by_stmt part held branch kept (O.CheckedStmt-F.If arms None) = subst P (sym (s.rolls-If (map branch arms) None)) (chain (map branch arms) (each_part Q branch kept arms))
  by_stmt part held branch kept (O.CheckedStmt-F.If arms (Some body)) = subst P (sym (s.rolls-If (map branch arms) (Some (map part body)))) (chain_else (map branch arms) (map part body) (each_part Q branch kept arms) (each_part P part held body))

  by_arm : {S T : Type 0} (part : S → CheckedStmt) (held : (d : S) → P (part d)) (branch : T → CheckedArm) (kept : (d : T) → Q (branch d)) (y : O.CheckedArm-F S T) → Q (roll-CheckedArm (map-CheckedArm S T CheckedStmt CheckedArm part branch y))
  by_arm part held branch kept y = arm y.cond (map part y.body) (each_part P part held y.body)

  -- what holds of each form if it holds of the statements in it holds of all statements
  pub stmt_induct : (x : CheckedStmt) → P x
  stmt_induct x = ind-CheckedStmt P Q
      (λ d y h. subst (λ (d : O.CheckedStmt-F CheckedStmt CheckedArm). P (roll-CheckedStmt d)) h (by_stmt (λ d. d.0) (λ d. d.1) (λ d. d.0) (λ d. d.1) y))
      (λ d y h. subst (λ (d : O.CheckedArm-F CheckedStmt CheckedArm). Q (roll-CheckedArm d)) h (by_arm (λ d. d.0) (λ d. d.1) (λ d. d.0) (λ d. d.1) y)) x
