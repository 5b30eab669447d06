-- The parser of expressions at each level, from that one level below.
use Rattle.std.proofs.Common.{◌≡◌, ◌<◌, ◌≤◌, ◌-◌, ℕ, zero, suc, nat_eq, if◌then◌else◌, List, Result, Ok, Err, refl, ap, sym, ◌∙◌, arith, inl, inr}
use Rattle.std.proofs.lemmas.Bool.{ne_eqb}
use Rattle.std.proofs.lemmas.Bool.Decides.{eqb_tells}
use Rattle.domino_tree.specs.declared.token.Token.{Token}
use Rattle.domino_tree.specs.declared.expr.Expr.{Expr}
use Rattle.domino_syntax.specs.Parsers.{Parser, and_then}
use Rattle.domino_syntax.specs.ReadingExpressions.{operand, chain, pick, loosest, behind_level, tier, expression_at}

pub expression_none : (depth below : ℕ) (tokens : List Token) → depth ≡ 0 → expression_at depth below tokens ≡ Err tokens
unfolding expression_at
expression_none depth below tokens is_zero = ap (λ n. expression_at n below tokens) is_zero

pub expression_next : (depth inner below : ℕ) → depth ≡ suc inner → expression_at depth below ≡ tier (expression_at inner) below
unfolding expression_at
expression_next depth inner below is_suc = ap (λ n. expression_at n below) is_suc

module _ (within : ℕ → Parser Expr) where
  -- an expression with no level below goes on with what is behind it at the first level
  pub tier_start : (tokens : List Token) (o : Result (Expr × List Token) (List Token)) → operand (within 0) (within loosest) tokens ≡ o → tier within 0 tokens ≡ o
  unfolding tier
  tier_start tokens o read = read

  tier_next : (below : ℕ) (tokens : List Token) → tier within (suc below) tokens ≡ and_then (tier within below tokens) (behind_level within (tier within below) below)
  unfolding tier
  tier_next below tokens = refl

  -- what is read behind an expression of one level is read at the next
  pub tier_goes_on : (below : ℕ) (tokens rest : List Token) (left : Expr) → tier within below tokens ≡ Ok (left, rest) → tier within (suc below) tokens ≡ behind_level within (tier within below) below left rest
  tier_goes_on below tokens rest left read =
      tier_next below tokens ∙ ap (λ o. and_then o (behind_level within (tier within below) below)) read

  -- what a level refuses, the levels above refuse
  pub tier_refuses : (below above : ℕ) (tokens rest : List Token) → below ≤ above → tier within below tokens ≡ Err rest → tier within above tokens ≡ Err rest
  tier_refuses below zero tokens rest le read = ap (λ n. tier within n tokens) (omega (arith, le)) ∙ read
  tier_refuses below (suc above) tokens rest le read =
      elim (eqb_tells below (suc above)) [
        | inl t ↦ ap (λ n. tier within n tokens) (sym t.1) ∙ read
        | inr t ↦ tier_next above tokens ∙ ap (λ o. and_then o (behind_level within (tier within above) above)) (tier_refuses below above tokens rest (let other = t.1 in omega (arith, le)) read)
      ]

  pub behind_pick : (below : ℕ) (left : Expr) (rest : List Token) → below ≡ 10 → behind_level within (tier within below) below left rest ≡ pick (within loosest) left rest
  behind_pick below left rest is = ap (λ b. (if b then pick (within loosest) left else chain (tier within below) (10 - below) left) rest) (ap (λ n. nat_eq n 10) is)

  pub behind_chain : (below : ℕ) (left : Expr) (rest : List Token) → below < 10 → behind_level within (tier within below) below left rest ≡ chain (tier within below) (10 - below) left rest
  behind_chain below left rest less = ap (λ b. (if b then pick (within loosest) left else chain (tier within below) (10 - below) left) rest) (ne_eqb below 10 (λ e. omega (arith, e)))
