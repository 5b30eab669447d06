-- what is left to execute leads to the same end, and moves no index
use Rattle.std.proofs.Common.{◌≡◌, map, drop}
use Rattle.domino_tree.specs.Execution.{chosen}
use Rattle.domino_check.specs.NumberedMeaning.{indexing, numbered_exec, numbered_step, numbered_choice}
use Rattle.domino_eval.specs.Parts.{state, last_does}
use Rattle.domino_eval.specs.Places.{marks, ArePlaces, BodyStays, ChainStays}
use Rattle.domino_eval.proofs.execution.+statement.Given as goal

abbrev pub invariant-run_block-loop-stmt : goal.invariant-run_block-loop-stmt
invariant-run_block-loop-stmt l = record {
  leads : numbered_exec (indexing l.checked) (drop l.stmt-index l.body) (state l.fields l.cells (marks l.places))
      ≡ numbered_exec (indexing l.checked) l.body (state l.fn.fields l.fn.cells (marks l.fn.places));
  places : ArePlaces (indexing l.checked) l.fields l.places;
  still : BodyStays (indexing l.checked) (marks l.places) (drop l.stmt-index l.body);
}

abbrev pub invariant-run_stmt-loop-arm : goal.invariant-run_stmt-loop-arm
invariant-run_stmt-loop-arm l = record {
  leads : chosen (map (numbered_choice (indexing l.checked)) (drop l.arm-index l.list)) (last_does (indexing l.checked) l.last) (state l.fields l.cells (marks l.places))
      ≡ numbered_step (indexing l.checked) l.stmt (state l.fn.fields l.fn.cells (marks l.fn.places));
  places : ArePlaces (indexing l.checked) l.fields l.places;
  still : ChainStays (indexing l.checked) (marks l.places) (drop l.arm-index l.list) l.last;
}
