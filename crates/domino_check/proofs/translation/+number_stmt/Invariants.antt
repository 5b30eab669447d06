-- the statements and the arms so far are in numbers, and their accesses in the list
use Rattle.std.proofs.Common.{◌≡◌, ◌++◌, map, take}
use Rattle.domino_check.specs.Numbering.{numbered_stmt, numbered_arm, in_turn, arm_accesses, block_accesses}
use Rattle.domino_check.proofs.translation.+number_stmt.Given as goal

abbrev pub invariant-number_block-loop-stmt : goal.invariant-number_block-loop-stmt
invariant-number_block-loop-stmt l = record {
  trees : l.trees ≡ map (numbered_stmt l.scope) (take l.stmt-index l.body);
  accesses : l.accesses.items ≡ l.initial.accesses.items ++ block_accesses l.scope (take l.stmt-index l.body);
}

abbrev pub invariant-number_arms-loop-arm : goal.invariant-number_arms-loop-arm
invariant-number_arms-loop-arm l = record {
  trees : l.trees ≡ map (numbered_arm l.scope) (take l.arm-index l.arms);
  accesses : l.accesses.items ≡ l.initial.accesses.items ++ in_turn (map (arm_accesses l.scope) (take l.arm-index l.arms));
}
