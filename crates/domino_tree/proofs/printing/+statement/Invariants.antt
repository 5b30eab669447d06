-- the arms and the statements so far are written
use Rattle.std.proofs.Common.{◌≡◌, map, take, flat_map}
use Rattle.domino_tree.specs.Text.{written}
use Rattle.domino_tree.specs.Grammar.{chained, arm_tokens, stmt_tokens}
use Rattle.domino_tree.proofs.printing.+statement.Given as goal

abbrev pub invariant-put_arms-loop-i : goal.invariant-put_arms-loop-i
invariant-put_arms-loop-i l = l.out.items ≡ written l.initial.out.items (chained (map arm_tokens (take l.i l.arms)))

abbrev pub invariant-put_block-loop-stmt : goal.invariant-put_block-loop-stmt
invariant-put_block-loop-stmt l = l.out.items ≡ written l.initial.out.items (flat_map (λ tokens. tokens) (map stmt_tokens (take l.stmt-index l.body)))
