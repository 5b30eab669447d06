use Rattle.std.proofs.Common.{◌≡◌, ◌∙◌, OnOk, Some, refl, subst, arith}
use Rattle.mp5_words.specs.Domain.{Mark}
use Rattle.domino_check.specs.SourceGroups.{cells_of}
use Rattle.source_rows.specs.MarkState.{state_of}
use Rattle.domino_check.specs.Walk.{Core}
use Rattle.source_rows.specs.MarkViews.{marks_of, core, block_walk}
use Rattle.source_rows.proofs.ChainLemmas.{cell_stmt, arms_more, arms_all, else_is, if_is}
use Rattle.source_rows.proofs.StepLemmas.{cond_is, touched_is}
use Rattle.source_rows.proofs.marked.+walk.Goals as goal

pub walk_arms-loop-arm-preserved : goal.walk_arms-loop-arm-preserved
walk_arms-loop-arm-preserved t c = record {
  walked = λ last. arms_more Mark (marks_of c.args.checked.now) c.args.checked.now c.args.arms.now c.loop-arm.arm-index c.arm-item.result last c.loop-arm.otherwise c.in_ok-branch.branch.holds c.in_ok-branch.branch.fails (core c.loop-arm.walked.fields.items c.loop-arm.walked.copies.items) _ _
      c.loop-arm-test.true c.arm-item.is c.in_ok-branch.ensures.holds c.in_ok-branch.ensures.fails c.in_ok-branch.ensures.walked (c.loop-arm.invariant.walked last);
  long = c.in_ok-branch.ensures.long;
}

pub walk_arms-returns-clause-walked : goal.walk_arms-returns-clause-walked
walk_arms-returns-clause-walked t c last = arms_all Mark (marks_of c.args.checked.now) c.args.checked.now c.args.arms.now c.loop-arm.arm-index last c.loop-arm.otherwise _ _ (omega (arith, c.loop-arm-test.false)) (c.loop-arm.invariant.walked last)

pub walk_stmt-returns-in-Some-clause-walked : goal.walk_stmt-returns-in-Some-clause-walked
walk_stmt-returns-in-Some-clause-walked t c =
    subst (λ (x : Core Mark). OnOk c.walk_block.result (core c.walk_block.new.walked.fields.items c.walk_block.new.walked.copies.items ≡ x))
    (else_is Mark (marks_of c.args.checked.now) c.args.checked.now c.args.stmt.now c.in-If.arms c.as_slice.result.now c.in-If.last c.in-Some.body c.as_slice-in-Some.result.now c.args.context.now c.in_ok-otherwise-in-If.otherwise _ _
    c.in-If.is c.in-Some.is c.as_slice.ensures c.as_slice-in-Some.ensures c.in_ok-otherwise-in-If.ensures.walked)
    c.walk_block.ensures.walked

pub walk_stmt-returns-clause-walked : goal.walk_stmt-returns-clause-walked
walk_stmt-returns-clause-walked t c =
    if_is Mark (marks_of c.args.checked.now) c.args.checked.now c.args.stmt.now c.in-If.arms c.as_slice.result.now c.in-If.last c.args.context.now c.in_ok-otherwise-in-If.otherwise _ _
    c.in-If.is c.in-None.is c.as_slice.ensures c.in_ok-otherwise-in-If.ensures.walked

pub walk_arm-returns-clause-holds : goal.walk_arm-returns-clause-holds
walk_arm-returns-clause-holds t c =
    let p = c.args.checked.now in
    let cond = cond_is Mark (marks_of p) p c.args.arm.now c.args.context.now _ c.in_ok-cond.cond c.touch_all.new.walked.fields.items c.deref.result.now c.touch_all.new.walked.copies.items c.deref-2.result.now (state_of c.args.walked.now)
    c.in_ok-guard.ensures c.in_ok-touch_all.ensures.walked c.deref.ensures.value c.deref-2.ensures.value c.in_ok-cond.ensures in
    c.in_ok-holds.ensures (cells_of p) ∙ (λ i. (marks_of p).yes (c.in_ok-guard.ensures i) (cond i))

pub walk_arm-returns-clause-fails : goal.walk_arm-returns-clause-fails
walk_arm-returns-clause-fails t c =
    let p = c.args.checked.now in
    let cond = cond_is Mark (marks_of p) p c.args.arm.now c.args.context.now _ c.in_ok-cond.cond c.touch_all.new.walked.fields.items c.deref.result.now c.touch_all.new.walked.copies.items c.deref-2.result.now (state_of c.args.walked.now)
    c.in_ok-guard.ensures c.in_ok-touch_all.ensures.walked c.deref.ensures.value c.deref-2.ensures.value c.in_ok-cond.ensures in
    c.in_ok-fails.ensures (cells_of p) ∙ (λ i. (marks_of p).no (c.in_ok-guard.ensures i) (cond i))

pub walk_arm-returns-clause-walked : goal.walk_arm-returns-clause-walked
walk_arm-returns-clause-walked t c =
    let p = c.args.checked.now in
    let touched = touched_is Mark (marks_of p) p c.args.arm.now c.args.context.now _ (state_of c.touch_all.new.walked) (state_of c.args.walked.now) c.in_ok-guard.ensures c.in_ok-touch_all.ensures.walked in
    c.in_ok-walk_block.ensures.walked ∙ (λ i. block_walk p (c.as_slice.ensures i) (Some (c.in_ok-same.ensures i)) (touched i))

pub walk_stmt-returns-in-SetCell-clause-walked : goal.walk_stmt-returns-in-SetCell-clause-walked
walk_stmt-returns-in-SetCell-clause-walked t c =
    subst (λ (x : Core Mark). OnOk c.set_cell.result (state_of c.set_cell.new.walked ≡ x))
    (cell_stmt Mark (marks_of c.args.checked.now) c.args.checked.now c.args.stmt.now c.in-SetCell.array c.in-SetCell.expr c.in-SetCell.expr c.args.context.now (state_of c.args.walked.now) c.in-SetCell.is refl)
    c.set_cell.ensures.walked
