-- what is left of the statements and arms, walked from here on, is all of them walked from the start
use Rattle.std.proofs.Common.{◌≡◌, List, Option, length, drop}
use Rattle.mp5_words.specs.Domain.{Mark}
use Rattle.domino_names.specs.Infos.{infos_of}
use Rattle.domino_check.specs.Walk.{Walks}
use Rattle.source_rows.specs.MarkViews.{core, block_walk, chain_walk}
use Rattle.source_rows.proofs.marked.+walk.Given as goal

abbrev pub invariant-walk_block-loop-stmt : goal.invariant-walk_block-loop-stmt
invariant-walk_block-loop-stmt l = record {
  walked : block_walk l.checked (drop l.stmt-index l.body) l.context (core l.walked.fields.items l.walked.copies.items)
      ≡ block_walk l.checked l.body l.context (core l.fn.walked.fields.items l.fn.walked.copies.items);
  long : length l.walked.copies.items ≡ length (infos_of l.checked);
}

abbrev pub invariant-walk_arms-loop-arm : goal.invariant-walk_arms-loop-arm
invariant-walk_arms-loop-arm l = record {
  walked : (last : Option (List (Walks Mark))) → chain_walk l.checked (drop l.arm-index l.arms) last l.otherwise (core l.walked.fields.items l.walked.copies.items)
      ≡ chain_walk l.checked l.arms last l.fn.context (core l.fn.walked.fields.items l.fn.walked.copies.items);
  long : length l.walked.copies.items ≡ length (infos_of l.checked);
}
