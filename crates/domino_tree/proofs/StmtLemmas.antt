-- The grammar's functions at each form of a statement, and induction over statements.
use Rattle.std.proofs.Common.{◌≡◌, Bool, true, ◌&&◌, List, [], ◌∷◌, ◌++◌, map, None, Some, sym, ap, subst, ◌∙◌}
use Rattle.domino_tree.specs.declared.token.Token.{Token}
use Rattle.domino_tree.specs.declared.token.Token.TheVariants as token
use Rattle.domino_tree.specs.declared.token.Sign.TheVariants as sign
use Rattle.domino_tree.specs.declared.token.Keyword.TheVariants as keyword
use Rattle.domino_tree.specs.declared.expr.Expr.{Expr}
use Rattle.domino_tree.specs.declared.program.Target.{Target}
use Rattle.domino_tree.specs.declared.program.Stmt.{Stmt, ind-Stmt, roll-Stmt, map-Stmt, fold-roll-Stmt}
use Rattle.domino_tree.specs.declared.program.Arm.{Arm, roll-Arm, map-Arm, fold-roll-Arm}
use Rattle.domino_tree.specs.declared.program.Stmt.TheOpen as O
use Rattle.domino_tree.specs.declared.program.Stmt.TheVariants as s
use Rattle.domino_tree.specs.Grammar.{spelled, stands, in_round, block_tokens, chained, last_block, target_tokens, is_target, all_true, has_arm, stmt_spelling, arm_spelling, stmt_tokens, arm_tokens, stmt_standing, arm_standing, is_stmt, is_arm}
use Rattle.domino_tree.proofs.ExprLemmas.{Each, each_part}

-- ---- the tokens

pub stmt_tokens-Set : (t : Target) (x : Expr) → stmt_tokens (s.Set t x) ≡ target_tokens t ++ (token.Sign sign.Assign ∷ (spelled x ++ (token.Sign sign.Semicolon ∷ [])))
stmt_tokens-Set t x = ap stmt_tokens (sym (s.rolls-Set t x)) ∙ fold-roll-Stmt (List Token) (List Token) stmt_spelling arm_spelling (O.Stmt-F.Set t x)

pub stmt_tokens-If : (arms : List Arm) → stmt_tokens (s.If arms None) ≡ chained (map arm_tokens arms) ++ []
stmt_tokens-If arms = ap stmt_tokens (sym (s.rolls-If arms None)) ∙ fold-roll-Stmt (List Token) (List Token) stmt_spelling arm_spelling (O.Stmt-F.If arms None)

pub stmt_tokens-Else : (arms : List Arm) (body : List Stmt) → stmt_tokens (s.If arms (Some body)) ≡ chained (map arm_tokens arms) ++ last_block (Some (map stmt_tokens body))
stmt_tokens-Else arms body = ap stmt_tokens (sym (s.rolls-If arms (Some body))) ∙ fold-roll-Stmt (List Token) (List Token) stmt_spelling arm_spelling (O.Stmt-F.If arms (Some body))

pub arm_tokens-Arm : (cond : Expr) (body : List Stmt) → arm_tokens (record { cond = cond; body = body }) ≡ token.Keyword keyword.If ∷ (in_round (spelled cond) ++ block_tokens (map stmt_tokens body))
arm_tokens-Arm cond body = fold-roll-Arm (List Token) (List Token) stmt_spelling arm_spelling (record { cond = cond; body = body })

-- ---- which statements the grammar has

pub is_stmt-Set : (t : Target) (x : Expr) → is_stmt (s.Set t x) ≡ (is_target t && stands x 0)
is_stmt-Set t x = ap is_stmt (sym (s.rolls-Set t x)) ∙ fold-roll-Stmt Bool Bool stmt_standing arm_standing (O.Stmt-F.Set t x)

pub is_stmt-If : (arms : List Arm) → is_stmt (s.If arms None) ≡ (has_arm (map is_arm arms) && (all_true (map is_arm arms) && true))
is_stmt-If arms = ap is_stmt (sym (s.rolls-If arms None)) ∙ fold-roll-Stmt Bool Bool stmt_standing arm_standing (O.Stmt-F.If arms None)

pub is_stmt-Else : (arms : List Arm) (body : List Stmt) → is_stmt (s.If arms (Some body)) ≡ (has_arm (map is_arm arms) && (all_true (map is_arm arms) && all_true (map is_stmt body)))
is_stmt-Else arms body = ap is_stmt (sym (s.rolls-If arms (Some body))) ∙ fold-roll-Stmt Bool Bool stmt_standing arm_standing (O.Stmt-F.If arms (Some body))

pub is_arm-Arm : (cond : Expr) (body : List Stmt) → is_arm (record { cond = cond; body = body }) ≡ (stands cond 0 && all_true (map is_stmt body))
is_arm-Arm cond body = fold-roll-Arm Bool Bool stmt_standing arm_standing (record { cond = cond; body = body })

-- ---- induction

module _ (P : Stmt → Type 0) (Q : Arm → Type 0)
    (set : (t : Target) (x : Expr) → P (s.Set t x))
    (chain : (arms : List Arm) → Each Q arms → P (s.If arms None))
    (chain_else : (arms : List Arm) (body : List Stmt) → Each Q arms → Each P body → P (s.If arms (Some body)))
    (arm : (cond : Expr) (body : List Stmt) → Each P body → Q (record { cond = cond; body = body })) where
  by_stmt : {S T : Type 0} (part : S → Stmt) (held : (d : S) → P (part d)) (branch : T → Arm) (kept : (d : T) → Q (branch d)) (y : O.Stmt-F S T) → P (roll-Stmt (map-Stmt S T Stmt Arm part branch y))
  by_stmt part held branch kept (O.Stmt-F.Set t x) = subst P (sym (s.rolls-Set t x)) (set t x)
  by_stmt part held branch kept (O.Stmt-F.If arms None) = subst P (sym (s.rolls-If (map branch arms) None)) (chain (map branch arms) (each_part Q branch kept arms))
  by_stmt part held branch kept (O.Stmt-F.If arms (Some body)) = subst P (sym (s.rolls-If (map branch arms) (Some (map part body)))) (chain_else (map branch arms) (map part body) (each_part Q branch kept arms) (each_part P part held body))

  by_arm : {S T : Type 0} (part : S → Stmt) (held : (d : S) → P (part d)) (branch : T → Arm) (kept : (d : T) → Q (branch d)) (y : O.Arm-F S T) → Q (roll-Arm (map-Arm S T Stmt Arm part branch y))
  by_arm part held branch kept y = arm y.cond (map part y.body) (each_part P part held y.body)

  -- what holds of each form if it holds of the statements in it holds of all statements
  pub induct : (x : Stmt) → P x
  induct x = ind-Stmt P Q
      (λ d y h. subst (λ (d : O.Stmt-F Stmt Arm). P (roll-Stmt d)) h (by_stmt (λ d. d.0) (λ d. d.1) (λ d. d.0) (λ d. d.1) y))
      (λ d y h. subst (λ (d : O.Arm-F Stmt Arm). Q (roll-Arm d)) h (by_arm (λ d. d.0) (λ d. d.1) (λ d. d.0) (λ d. d.1) y)) x
