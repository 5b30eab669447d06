use Rattle.std.proofs.Common.{◌≡◌, OnOk, subst, arith}
use Rattle.mp5_words.specs.Domain.{sources}
use Rattle.domino_check.specs.Walk.{Core}
use Rattle.source_rows.specs.Views.{Sources, core}
use Rattle.source_rows.proofs.ChainLemmas.{arms_more, arms_all, else_is, if_is}
use Rattle.source_rows.proofs.sources.+walk.Goals as goal

pub walk_arms-loop-arm-preserved : goal.walk_arms-loop-arm-preserved
walk_arms-loop-arm-preserved t c = record {
  walked = λ last. arms_more Sources sources c.args.checked.now c.args.arms.now c.loop-arm.arm-index c.arm-item.result last c.loop-arm.otherwise c.in_ok-walk_arm.field-0 c.in_ok-walk_arm.field-0 (core c.loop-arm.walked.fields.items c.loop-arm.walked.copies.items) _ _
      c.loop-arm-test.true c.arm-item.is c.in_ok-walk_arm.ensures.fails c.in_ok-walk_arm.ensures.fails c.in_ok-walk_arm.ensures.walked (c.loop-arm.invariant.walked last);
  long = c.in_ok-walk_arm.ensures.long;
}

pub walk_arms-returns-clause-walked : goal.walk_arms-returns-clause-walked
walk_arms-returns-clause-walked t c last = arms_all Sources sources c.args.checked.now c.args.arms.now c.loop-arm.arm-index last c.loop-arm.otherwise _ _ (omega (arith, c.loop-arm-test.false)) (c.loop-arm.invariant.walked last)

pub walk_stmt-returns-in-Some-clause-walked : goal.walk_stmt-returns-in-Some-clause-walked
walk_stmt-returns-in-Some-clause-walked t c =
    subst (λ (x : Core Sources). OnOk c.walk_block.result (core c.walk_block.new.walked.fields.items c.walk_block.new.walked.copies.items ≡ x))
    (else_is Sources sources c.args.checked.now c.args.stmt.now c.in-If.arms c.as_slice.result.now c.in-If.last c.in-Some.body c.as_slice-in-Some.result.now c.args.context.now c.in_ok-otherwise-in-If.otherwise _ _
    c.in-If.is c.in-Some.is c.as_slice.ensures c.as_slice-in-Some.ensures c.in_ok-otherwise-in-If.ensures.walked)
    c.walk_block.ensures.walked

pub walk_stmt-returns-clause-walked : goal.walk_stmt-returns-clause-walked
walk_stmt-returns-clause-walked t c =
    if_is Sources sources c.args.checked.now c.args.stmt.now c.in-If.arms c.as_slice.result.now c.in-If.last c.args.context.now c.in_ok-otherwise-in-If.otherwise _ _
    c.in-If.is c.in-None.is c.as_slice.ensures c.in_ok-otherwise-in-If.ensures.walked
