-- The lines of a well-formed body are well formed.
use Rattle.std.proofs.Common.{◌≡◌, ℕ, suc, Bool, true, ◌&&◌, nat_lt, List, [], ◌∷◌, ◌++◌, map, Option, None, Some, refl, sym, ap, subst, ◌∙◌}
use Rattle.std.specs.List.{list_all}
use Rattle.domino_tree.specs.Grammar.{all_true}
use Rattle.domino_tree.proofs.ExprLemmas.{Each}
use Rattle.domino_check.specs.declared.numbered.CheckedStmt.{CheckedStmt}
use Rattle.domino_check.specs.declared.numbered.CheckedArm.{CheckedArm}
use Rattle.domino_check.specs.WellFormed as source_forms
use Rattle.domino_check.specs.WellFormed.{stmt_fits, arm_fits, body_fits}
use Rattle.domino_check.proofs.FitLemmas.{fits-SetField, fits-SetCell, fits-If, fits-Else, fits-Arm}
use Rattle.domino_check.proofs.TreeLemmas.{stmt_induct}
use Rattle.code_forms.specs.declared.guard.GuardLine.{GuardLine}
use Rattle.code_forms.specs.declared.guard.GuardLine.TheVariants as line
use Rattle.code_forms.specs.GuardValid.{fits, line_fits}
use Rattle.code_forms.proofs.ValidLemmas.{and_front, and_back, and_both}
use Rattle.branch_removal.specs.GuardedLines.{guarded, Made, Emits, block_lines, last_lines, chain_lines, stmt_lines, arm_lines, body_lines}
use Rattle.branch_removal.proofs.GuardedLemmas.{fits_same}
use Rattle.branch_removal.proofs.Trees

all_join : {X : Type 0} (test : X → Bool) (xs ys : List X) → list_all test xs ≡ true → list_all test ys ≡ true → list_all test (xs ++ ys) ≡ true
all_join test [] ys one two = two
all_join test (x ∷ xs) ys one two = and_both (test x) (list_all test (xs ++ ys)) (and_front (test x) _ one) (all_join test xs ys (and_back (test x) _ one) two)

all_mapped : {X : Type 0} (test : X → Bool) (xs : List X) → list_all test xs ≡ true → all_true (map test xs) ≡ true
all_mapped test [] e = refl
all_mapped test (x ∷ xs) e = and_both (test x) (all_true (map test xs)) (and_front (test x) _ e) (all_mapped test xs (and_back (test x) _ e))

module _ (fields arrays : ℕ) where
  abbrev Fit : Made → Type 0
  Fit made = list_all (line_fits fields arrays) made.lines ≡ true

  abbrev Fits : Emits → Type 0
  Fits emits = (u n : ℕ) → Fit (emits u n)

  abbrev StmtFits : CheckedStmt → Type 0
  StmtFits x = stmt_fits fields arrays x ≡ true → Fits (stmt_lines x)

  abbrev ArmFits : CheckedArm → Type 0
  ArmFits x = arm_fits fields arrays x ≡ true → Fits (arm_lines x)

  block_fit : (body : List CheckedStmt) → Each StmtFits body → all_true (map (stmt_fits fields arrays) body) ≡ true → Fits (block_lines (map stmt_lines body))
  block_fit [] held e u n = refl
  block_fit (x ∷ body) held e u n =
      let one : Made = stmt_lines x u n in
      all_join (line_fits fields arrays) one.lines (block_lines (map stmt_lines body) u one.next).lines
      (held.0 (and_front (stmt_fits fields arrays x) _ e) u n)
      (block_fit body held.1 (and_back (stmt_fits fields arrays x) _ e) u one.next)

  chain_fit : (arms : List CheckedArm) → Each ArmFits arms → all_true (map (arm_fits fields arrays) arms) ≡ true → (last : Option (List Emits)) → Fits (last_lines last) → Fits (chain_lines (map arm_lines arms) last)
  chain_fit [] held e last ends u n = ends u n
  chain_fit (x ∷ arms) held e last ends u n =
      let one : Made = arm_lines x u n in
      all_join (line_fits fields arrays) one.lines (chain_lines (map arm_lines arms) last (suc n) one.next).lines
      (held.0 (and_front (arm_fits fields arrays x) _ e) u n)
      (chain_fit arms held.1 (and_back (arm_fits fields arrays x) _ e) last ends (suc n) one.next)

  -- a line whose test is that of the source
  one_fits : (l : GuardLine) (next : ℕ) (b : Bool) → line_fits fields arrays l ≡ b → b ≡ true → Fit (record { lines = l ∷ []; next = next })
  one_fits l next b same e = and_both (line_fits fields arrays l) true (same ∙ e) refl

  stmt_fit : (x : CheckedStmt) → StmtFits x
  stmt_fit = stmt_induct StmtFits ArmFits
      (λ f x e u n. subst Fit (sym (Trees.lines-SetField f x u n)) (one_fits (line.SetField f u (guarded x)) n _ (ap (λ b. nat_lt f fields && b) (fits_same fields arrays x)) (sym (fits-SetField fields arrays f x) ∙ e)))
      (λ a x e u n. subst Fit (sym (Trees.lines-SetCell a x u n)) (one_fits (line.SetCell a u (guarded x)) n _ (ap (λ b. nat_lt a arrays && b) (fits_same fields arrays x)) (sym (fits-SetCell fields arrays a x) ∙ e)))
      (λ arms held e u n. subst Fit (sym (Trees.lines-If arms u n)) (chain_fit arms held (and_front _ true (sym (fits-If fields arrays arms) ∙ e)) None (λ u n. refl) u n))
      (λ arms body held inside e u n.
      let both = sym (fits-Else fields arrays arms body) ∙ e in
      subst Fit (sym (Trees.lines-Else arms body u n)) (chain_fit arms held (and_front (all_true (map (arm_fits fields arrays) arms)) _ both) (Some (map stmt_lines body)) (block_fit body inside (and_back (all_true (map (arm_fits fields arrays) arms)) _ both)) u n))
      (λ cond body inside e u n.
      let both = sym (fits-Arm fields arrays cond body) ∙ e in
      subst Fit (sym (Trees.lines-Arm cond body u n))
      (and_both (fits fields arrays (guarded cond)) _ (fits_same fields arrays cond ∙ and_front (source_forms.fits fields arrays cond) _ both)
      (block_fit body inside (and_back (source_forms.fits fields arrays cond) _ both) n (suc (suc n)))))

  each_fit : (body : List CheckedStmt) → Each StmtFits body
  each_fit [] = tt
  each_fit (x ∷ body) = (stmt_fit x, each_fit body)

  pub lines_fit : (body : List CheckedStmt) → body_fits fields arrays body ≡ true → list_all (line_fits fields arrays) (body_lines body) ≡ true
  lines_fit body e = block_fit body (each_fit body) (all_mapped (stmt_fits fields arrays) body e) 0 1
