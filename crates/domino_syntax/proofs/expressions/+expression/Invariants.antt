-- Each form within a form has a number less to count down. Of one number, a function comes after those that it
-- calls: the forms in brackets, those without operators, and the levels from the lowest on.
use Rattle.std.proofs.Common.{◌≡◌, ◌+◌, ◌-◌, ◌*◌, Ok}
use Rattle.domino_tree.specs.declared.token.Sign.TheVariants.{Comma}
use Rattle.domino_syntax.specs.Parsers.{sees, sees_sign, repeat, adding}
use Rattle.domino_syntax.specs.ReadingExpressions as spec
use Rattle.domino_syntax.proofs.expressions.+expression.Given as goal

abbrev pub decreases-expression_at : goal.decreases-expression_at
decreases-expression_at l = 60 * l.depth

abbrev pub decreases-bracketed : goal.decreases-bracketed
decreases-bracketed l = 60 * l.depth + 1

abbrev pub decreases-argument : goal.decreases-argument
decreases-argument l = 60 * l.depth + 1

abbrev pub decreases-pick : goal.decreases-pick
decreases-pick l = 60 * l.depth + 1

abbrev pub decreases-arguments : goal.decreases-arguments
decreases-arguments l = 60 * l.depth + 2

abbrev pub decreases-named : goal.decreases-named
decreases-named l = 60 * l.depth + 3

abbrev pub decreases-primary : goal.decreases-primary
decreases-primary l = 60 * l.depth + 4

abbrev pub decreases-operand : goal.decreases-operand
decreases-operand l = 60 * l.depth + 5

abbrev pub decreases-tier : goal.decreases-tier
decreases-tier l = 60 * l.depth + (4 * l.below + 6)

abbrev pub decreases-joined : goal.decreases-joined
decreases-joined l = 60 * l.depth + (4 * l.below + 7)

abbrev pub decreases-chain : goal.decreases-chain
decreases-chain l = 60 * l.depth + (4 * l.below + 8)

abbrev pub decreases-behind_level : goal.decreases-behind_level
decreases-behind_level l = 60 * l.depth + (4 * l.below + 9)

abbrev pub invariant-arguments-loop-turn : goal.invariant-arguments-loop-turn
invariant-arguments-loop-turn l =
    spec.arguments (spec.expression l.depth) l.fn.reader ≡ repeat (λ _. sees_sign Comma) (adding (spec.argument (spec.expression l.depth))) (l._turn-end - l._turn) l.found l.reader

abbrev pub invariant-chain-loop-turn : goal.invariant-chain-loop-turn
invariant-chain-loop-turn l =
    spec.chain (spec.tier (spec.expression_at l.depth) l.below) (10 - l.below) l.fn.first l.fn.reader ≡ repeat (λ _. sees (spec.a_binary (10 - l.below))) (spec.joined (spec.tier (spec.expression_at l.depth) l.below) (10 - l.below)) (l._turn-end - l._turn) l.left l.reader

abbrev pub invariant-tier-loop-level : goal.invariant-tier-loop-level
invariant-tier-loop-level l = spec.tier (spec.expression_at l.depth) l.level l.fn.reader ≡ Ok (l.left, l.reader)
