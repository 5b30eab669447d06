use Rattle.std.proofs.Common.{arith, rules, Fits, w32}
use Rattle.switch_runner.proofs.run.count_cells.Goals as goal

pub overflow_add-total : goal.overflow_add-total
overflow_add-total c =
    let fits : Fits w32 c.info-item.result.length = search rules in
    omega (arith, fits, c.loop-info.invariant.small, c.requires, c.loop-info-test.true)
