use Rattle.std.proofs.Common.{◌≡◌, Some, refl, sym, ap, ◌∙◌, arith}
use Rattle.std.proofs.lemmas.List.{length-map}
use Rattle.std.specs.Prelude.{is_some}
use Rattle.domino_tree.specs.Execution.{State, at_last}
use Rattle.domino_check.specs.declared.numbered.CheckedStmt.TheVariants as s
use Rattle.domino_check.specs.NumberedMeaning.{indexing, numbered_step, numbered_choice}
use Rattle.domino_eval.specs.Parts.{state, last_does}
use Rattle.domino_eval.specs.Places.{marks}
use Rattle.domino_eval.proofs.EvalLemmas.{chain_held, chain_failed, chain_ended, step-Chain}
use Rattle.domino_eval.proofs.PlaceLemmas.{exec_next, stmt_next, chain_here, chain_next, field_moves}
use Rattle.domino_eval.proofs.execution.+statement.Goals as goal

pub run_block-loop-stmt-preserved : goal.run_block-loop-stmt-preserved
run_block-loop-stmt-preserved t c =
    let ix = indexing c.args.checked.now in
    let before = state c.loop-stmt.fields c.loop-stmt.cells (marks c.loop-stmt.places) in
    let touched = ap (λ (s : State). s.touched) c.run_stmt.ensures.state in
    record {
      leads = exec_next ix c.args.body.now c.loop-stmt.stmt-index c.stmt-item.result before _ c.loop-stmt-test.true c.stmt-item.is c.run_stmt.ensures.state ∙ c.loop-stmt.invariant.leads;
      places = c.run_stmt.ensures.places;
      still = stmt_next ix c.args.body.now c.loop-stmt.stmt-index c.stmt-item.result before (marks c.run_stmt.new.places) c.loop-stmt-test.true c.stmt-item.is touched
          (omega (arith, length-map c.run_stmt.new.places is_some, length-map c.loop-stmt.places is_some)) c.loop-stmt.invariant.still;
    }

pub run_stmt-set_field-requires-clause-still : goal.run_stmt-set_field-requires-clause-still
run_stmt-set_field-requires-clause-still t c = field_moves (indexing c.args.checked.now) (marks c.args.places.now) c.args.stmt.now c.in-SetField.field c.in-SetField.expr c.in-SetField.is c.requires.still

pub run_stmt-loop-arm-init : goal.run_stmt-loop-arm-init
run_stmt-loop-arm-init t c =
    let ix = indexing c.args.checked.now in
    let old = state c.args.fields.now c.args.cells.now (marks c.args.places.now) in
    let list = c.as_slice-list.result.now in
    let is : c.args.stmt.now ≡ s.If list c.in-If.last = c.in-If.is ∙ ap (λ l. s.If l c.in-If.last) (sym c.as_slice-list.ensures) in
    record {
      leads = sym (ap (λ x. numbered_step ix x old) is ∙ step-Chain ix list c.in-If.last old);
      places = c.requires.places;
      still = chain_here ix (marks c.args.places.now) c.args.stmt.now list list c.in-If.last c.requires.still is refl;
    }

pub run_stmt-returns-then-run_arm-clause-state : goal.run_stmt-returns-then-run_arm-clause-state
run_stmt-returns-then-run_arm-clause-state t c =
    let ix = indexing c.args.checked.now in
    sym (chain_held (numbered_choice ix) c.as_slice-list.result.now c.loop-arm.arm-index c.arm-item.result (last_does ix c.in-If.last) (state c.loop-arm.fields c.loop-arm.cells (marks c.loop-arm.places)) _
    c.loop-arm-test.true c.arm-item.is c.if-run_arm.ensures.holds c.if-run_arm.ensures.state)
    ∙ c.loop-arm.invariant.leads

pub run_stmt-loop-arm-preserved : goal.run_stmt-loop-arm-preserved
run_stmt-loop-arm-preserved t c =
    let ix = indexing c.args.checked.now in
    record {
      leads = chain_failed (numbered_choice ix) c.as_slice-list.result.now c.loop-arm.arm-index c.arm-item.result (last_does ix c.in-If.last) (state c.loop-arm.fields c.loop-arm.cells (marks c.loop-arm.places)) _
          c.loop-arm-test.true c.arm-item.is c.if-run_arm.ensures.holds c.if-run_arm.ensures.state
          ∙ c.loop-arm.invariant.leads;
      places = c.if-run_arm.ensures.places;
      still = chain_next ix c.as_slice-list.result.now c.in-If.last c.loop-arm.arm-index c.arm-item.result (marks c.loop-arm.places) (marks c.run_arm.new.places) c.loop-arm-test.true c.arm-item.is
          (ap (λ (s : State). s.touched) c.if-run_arm.ensures.state) c.loop-arm.invariant.still;
    }

pub run_stmt-returns-in-Some-clause-state : goal.run_stmt-returns-in-Some-clause-state
run_stmt-returns-in-Some-clause-state t c =
    let ix = indexing c.args.checked.now in
    let before = state c.loop-arm.fields c.loop-arm.cells (marks c.loop-arm.places) in
    let is : c.in-If.last ≡ Some c.as_slice.result.now = c.in-Some.is ∙ ap Some (sym c.as_slice.ensures) in
    c.run_block.ensures.state
    ∙ sym (ap (λ l. at_last (last_does ix l) before) is)
    ∙ sym (chain_ended (numbered_choice ix) c.as_slice-list.result.now c.loop-arm.arm-index (last_does ix c.in-If.last) before c.loop-arm-test.false)
    ∙ c.loop-arm.invariant.leads

pub run_stmt-returns-in_default-clause-state : goal.run_stmt-returns-in_default-clause-state
run_stmt-returns-in_default-clause-state t c =
    let ix = indexing c.args.checked.now in
    let before = state c.loop-arm.fields c.loop-arm.cells (marks c.loop-arm.places) in
    sym (ap (λ l. at_last (last_does ix l) before) c.in_default.is)
    ∙ sym (chain_ended (numbered_choice ix) c.as_slice-list.result.now c.loop-arm.arm-index (last_does ix c.in-If.last) before c.loop-arm-test.false)
    ∙ c.loop-arm.invariant.leads
