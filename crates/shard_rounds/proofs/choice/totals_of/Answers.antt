use Rattle.std.proofs.Common.{arith}
use Rattle.shard_rounds.proofs.Choosing.{totals_fit, totals_step, totals_skip, totals_all}
use Rattle.shard_rounds.proofs.choice.totals_of.Goals as goal

pub overflow_add-totals : goal.overflow_add-totals
overflow_add-totals c =
    let fits = totals_fit c.loop-u.totals c.args.owners.now c.args.loads.now c.loop-u.u c.loop-u.invariant c.loop-u-test.true (omega arith) (c.requires.pipes c.loop-u.u c.loop-u-test.true) c.requires.few in
    omega arith

pub loop-u-preserved : goal.loop-u-preserved
loop-u-preserved c =
    totals_step c.loop-u.totals c.args.owners.now c.args.loads.now c.loop-u.u c.loop-u.invariant c.loop-u-test.true (omega arith) (c.requires.pipes c.loop-u.u c.loop-u-test.true)

pub returns-clause-totals : goal.returns-clause-totals
returns-clause-totals c = totals_all c.loop-u.totals c.args.owners.now c.args.loads.now c.loop-u.u c.loop-u.invariant (omega arith) (omega arith)

pub loop-u-preserved-then-loads-u-eq0 : goal.loop-u-preserved-then-loads-u-eq0
loop-u-preserved-then-loads-u-eq0 c = totals_skip c.loop-u.totals c.args.owners.now c.args.loads.now c.loop-u.u c.loop-u.invariant c.loop-u-test.true (omega arith) c.if-loads-u-eq0.true
