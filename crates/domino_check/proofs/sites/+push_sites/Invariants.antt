-- the sites of the statements and of the arms so far
use Rattle.std.proofs.Common.{◌≡◌, ◌++◌, map, take}
use Rattle.domino_check.specs.Touches.{touches_of, joined_touches, arm_touches}
use Rattle.domino_check.proofs.sites.+push_sites.Given as goal

abbrev pub invariant-push_block-loop-stmt : goal.invariant-push_block-loop-stmt
invariant-push_block-loop-stmt l = l.out.items ≡ l.initial.out.items ++ touches_of (take l.stmt-index l.body)

abbrev pub invariant-push_arms-loop-arm : goal.invariant-push_arms-loop-arm
invariant-push_arms-loop-arm l = l.out.items ≡ l.initial.out.items ++ joined_touches (map arm_touches (take l.arm-index l.arms))
