use Rattle.std.proofs.Common.{◌≡◌, ◌-◌, ◌+◌, suc, true, false, Ok, Err, sym, subst, ◌∙◌, arith}
use Rattle.domino_tree.specs.declared.token.Sign.TheVariants.{Comma}
use Rattle.domino_tree.specs.declared.expr.Expr.{Expr}
use Rattle.domino_syntax.specs.Parsers.{Parser, Reads, first, sees, sees_sign, adding}
use Rattle.domino_syntax.specs.ReadingExpressions as spec
use Rattle.domino_syntax.proofs.Turns.{repeat_turn, repeat_refuses, repeat_ends, repeat_over, all_turn, all_refuses, passes_on}
use Rattle.domino_syntax.proofs.Tiers.{expression_none, expression_next, tier_start, tier_goes_on, tier_refuses, behind_pick, behind_chain}
use Rattle.domino_syntax.proofs.expressions.+expression.Goals as goal

-- ---- arguments

pub arguments-returns-then-not-sees_sign : goal.arguments-returns-then-not-sees_sign
arguments-returns-then-not-sees_sign t c =
    let ends : sees_sign Comma (first c.loop-turn.reader) ≡ false = cc in
    c.loop-turn.invariant ∙ repeat_ends (λ _. sees_sign Comma) (adding (spec.argument (spec.expression c.args.depth))) c.loop-turn.found c.loop-turn.reader c.loop-turn.reader (c.left-turn-end.result - c.loop-turn._turn) ends

pub arguments-returns-in_err-argument : goal.arguments-returns-in_err-argument
arguments-returns-in_err-argument t c =
    let n = c.left-turn-end.result - c.loop-turn._turn in
    let m = c.left-turn-end.result - (c.loop-turn._turn + 1) in
    let is_suc : n ≡ suc m = omega arith in
    let sees : sees_sign Comma (first c.loop-turn.reader) ≡ true = cc in
    let refused = all_refuses (sees_sign Comma) (spec.argument (spec.expression c.args.depth)) n m c.loop-turn.found c.loop-turn.reader c.argument.new.reader is_suc sees in
    passes_on _ _ c.in_err-argument.field-0.0 _ _ c.from_residual-in_err-argument.ensures.1 (λ e. c.loop-turn.invariant ∙ refused e) c.in_err-argument.ensures

pub arguments-loop-turn-preserved : goal.arguments-loop-turn-preserved
arguments-loop-turn-preserved t c =
    let n = c.left-turn-end.result - c.loop-turn._turn in
    let m = c.left-turn-end.result - (c.loop-turn._turn + 1) in
    let is_suc : n ≡ suc m = omega arith in
    let sees : sees_sign Comma (first c.loop-turn.reader) ≡ true = cc in
    let turn = all_turn (sees_sign Comma) (spec.argument (spec.expression c.args.depth)) n m c.loop-turn.found c.loop-turn.reader c.argument.new.reader c.in_ok-argument.field-0 is_suc sees c.in_ok-argument.ensures in
    cc (c.in_ok-push-2.ensures.ok)

pub arguments-returns : goal.arguments-returns
arguments-returns t c =
    let is_zero : c.left-turn-end.result - c.loop-turn._turn ≡ 0 = omega arith in
    c.loop-turn.invariant ∙ repeat_over (λ _. sees_sign Comma) (adding (spec.argument (spec.expression c.args.depth))) c.loop-turn.found c.loop-turn.reader c.loop-turn.reader _ is_zero

-- ---- operators of one level

pub chain-returns-then-not-sees_binary : goal.chain-returns-then-not-sees_binary
chain-returns-then-not-sees_binary t c =
    let right = spec.tier (spec.expression_at c.args.depth) c.args.below in
    let k = 10 - c.args.below in
    let ends : sees (spec.a_binary k) (first c.loop-turn.reader) ≡ false = cc in
    c.loop-turn.invariant ∙ repeat_ends (λ _. sees (spec.a_binary k)) (spec.joined right k) c.loop-turn.left c.loop-turn.reader c.loop-turn.reader (c.left-turn-end.result - c.loop-turn._turn) ends

pub chain-returns-in_err-left : goal.chain-returns-in_err-left
chain-returns-in_err-left t c =
    let right = spec.tier (spec.expression_at c.args.depth) c.args.below in
    let k = 10 - c.args.below in
    let n = c.left-turn-end.result - c.loop-turn._turn in
    let m = c.left-turn-end.result - (c.loop-turn._turn + 1) in
    let is_suc : n ≡ suc m = omega arith in
    let goes : sees (spec.a_binary k) (first c.loop-turn.reader) ≡ true = cc in
    let refused = repeat_refuses (λ _. sees (spec.a_binary k)) (spec.joined right k) c.loop-turn.left c.loop-turn.reader c.joined.new.reader n m is_suc goes in
    passes_on _ _ c.in_err-left.field-0.0 _ _ c.from_residual.ensures.1 (λ e. c.loop-turn.invariant ∙ refused e) c.in_err-left.ensures

pub chain-loop-turn-preserved : goal.chain-loop-turn-preserved
chain-loop-turn-preserved t c =
    let right = spec.tier (spec.expression_at c.args.depth) c.args.below in
    let k = 10 - c.args.below in
    let n = c.left-turn-end.result - c.loop-turn._turn in
    let m = c.left-turn-end.result - (c.loop-turn._turn + 1) in
    let is_suc : n ≡ suc m = omega arith in
    let goes : sees (spec.a_binary k) (first c.loop-turn.reader) ≡ true = cc in
    c.loop-turn.invariant ∙ repeat_turn (λ _. sees (spec.a_binary k)) (spec.joined right k) c.loop-turn.left c.loop-turn.reader c.joined.new.reader n m c.in_ok-left.left is_suc goes c.in_ok-left.ensures

pub chain-returns : goal.chain-returns
chain-returns t c =
    let right = spec.tier (spec.expression_at c.args.depth) c.args.below in
    let k = 10 - c.args.below in
    let is_zero : c.left-turn-end.result - c.loop-turn._turn ≡ 0 = omega arith in
    c.loop-turn.invariant ∙ repeat_over (λ _. sees (spec.a_binary k)) (spec.joined right k) c.loop-turn.left c.loop-turn.reader c.loop-turn.reader _ is_zero

-- ---- levels

pub expression_at-returns-then-depth-eq0 : goal.expression_at-returns-then-depth-eq0
expression_at-returns-then-depth-eq0 t c = expression_none c.args.depth c.args.below c.args.reader.now c.if-depth-eq0.true

pub expression_at-returns : goal.expression_at-returns
expression_at-returns t c =
    let is_suc : c.args.depth ≡ suc (c.args.depth - 1) = omega arith in
    subst (λ (p : Parser Expr). Reads (p c.args.reader.now) c.tier.result c.tier.new.reader) (sym (expression_next c.args.depth (c.args.depth - 1) c.args.below is_suc)) c.tier.ensures

pub behind_level-returns-then-below : goal.behind_level-returns-then-below
behind_level-returns-then-below t c =
    subst (λ o. Reads o c.pick.result c.pick.new.reader) (sym (behind_pick (spec.expression_at c.args.depth) c.args.below c.args.left c.args.reader.now (omega arith))) c.pick.ensures

pub behind_level-returns-else-below : goal.behind_level-returns-else-below
behind_level-returns-else-below t c =
    subst (λ o. Reads o c.chain.result c.chain.new.reader) (sym (behind_chain (spec.expression_at c.args.depth) c.args.below c.args.left c.args.reader.now (omega arith))) c.chain.ensures

pub tier-returns-in_err-left : goal.tier-returns-in_err-left
tier-returns-in_err-left t c =
    let within = spec.expression_at c.args.depth in
    passes_on _ _ c.in_err-left.field-0.0 _ _ c.from_residual.ensures.1 (λ e. tier_refuses within 0 c.args.below c.args.reader.now c.operand.new.reader (omega arith) (tier_start within c.args.reader.now (Err c.operand.new.reader) e)) c.in_err-left.ensures

pub tier-loop-level-init : goal.tier-loop-level-init
tier-loop-level-init t c =
    tier_start (spec.expression_at c.args.depth) c.args.reader.now _ c.in_ok-left.ensures

pub tier-returns-in_err-left-2 : goal.tier-returns-in_err-left-2
tier-returns-in_err-left-2 t c =
    let within = spec.expression_at c.args.depth in
    let goes_on = tier_goes_on within c.loop-level.level c.args.reader.now c.loop-level.reader c.loop-level.left c.loop-level.invariant in
    passes_on _ _ c.in_err-left-2.field-0.0 _ _ c.from_residual-in_err-left-2.ensures.1 (λ e. tier_refuses within (suc c.loop-level.level) c.args.below c.args.reader.now c.behind_level.new.reader (omega arith) (goes_on ∙ e)) c.in_err-left-2.ensures

pub tier-loop-level-preserved : goal.tier-loop-level-preserved
tier-loop-level-preserved t c =
    let within = spec.expression_at c.args.depth in
    let goes_on = tier_goes_on within c.loop-level.level c.args.reader.now c.loop-level.reader c.loop-level.left c.loop-level.invariant in
    subst (λ n. spec.tier within n c.args.reader.now ≡ Ok (c.in_ok-left-2.left, c.behind_level.new.reader)) (omega arith) (goes_on ∙ c.in_ok-left-2.ensures)
