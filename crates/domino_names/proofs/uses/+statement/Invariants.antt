-- the uses in the arms and in the statements so far
use Rattle.std.proofs.Common.{◌≡◌, ◌++◌, map, take}
use Rattle.domino_names.specs.Uses.{joined, arm_uses, stmt_uses}
use Rattle.domino_names.proofs.uses.+statement.Given as goal

abbrev pub invariant-push_arms-loop-arm : goal.invariant-push_arms-loop-arm
invariant-push_arms-loop-arm l = l.out.items ≡ l.initial.out.items ++ joined (map arm_uses (take l.arm-index l.arms))

abbrev pub invariant-push_block-loop-stmt : goal.invariant-push_block-loop-stmt
invariant-push_block-loop-stmt l = l.out.items ≡ l.initial.out.items ++ joined (map stmt_uses (take l.stmt-index l.body))
