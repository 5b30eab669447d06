use Rattle.std.proofs.Common.{◌≤◌, arith}
use Rattle.egress_order.specs.OwnPackets.{leading}
use Rattle.egress_order.proofs.Leading.{leading_length, leading_go, leading_stop}
use Rattle.egress_order.proofs.exit.leading_from.Goals as goal
use Rattle.egress_order.proofs.exit.leading_from.Goals.{then-loop-count-test+else-flags-count, else-loop-count-test}

pub loop-count-preserved : goal.loop-count-preserved
loop-count-preserved c = leading_go c.args.flags.now c.loop-count.count c.loop-count.invariant c.if-flags-count.true

pub overflow_cast-result : goal.overflow_cast-result
overflow_cast-result c =
    let most = leading_length c.args.flags.now in
    let known : c.loop-count.count ≤ leading c.args.flags.now = c.loop-count.invariant in
    omega arith

pub returns : goal.returns
returns c =
    let known : c.loop-count.count ≤ leading c.args.flags.now = c.loop-count.invariant in
    elim c.loop-count-test.branch [
      | then-loop-count-test+else-flags-count w ↦ let most = leading_stop c.args.flags.now c.loop-count.count w.if-flags-count.false in omega arith
      | else-loop-count-test w ↦ let most = leading_length c.args.flags.now in omega arith
    ]
