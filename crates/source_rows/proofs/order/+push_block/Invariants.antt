-- those of the statements and of the arms so far
use Rattle.std.proofs.Common.{◌≡◌, ◌++◌, take}
use Rattle.source_rows.specs.Order.{body_touched, arms_touched}
use Rattle.source_rows.proofs.order.+push_block.Given as goal

abbrev pub invariant-push_block-loop-stmt : goal.invariant-push_block-loop-stmt
invariant-push_block-loop-stmt l = l.out ≡ l.initial.out ++ body_touched (take l.stmt-index l.body)

abbrev pub invariant-push_arms-loop-arm : goal.invariant-push_arms-loop-arm
invariant-push_arms-loop-arm l = l.out ≡ l.initial.out ++ arms_touched (take l.arm-index l.arms)
