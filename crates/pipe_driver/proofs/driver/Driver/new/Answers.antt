use Rattle.std.proofs.Common.{◌≡◌, length, arith}
use Rattle.pipe_driver.proofs.DriverLemmas.{new_driver}
use Rattle.pipe_driver.proofs.driver.Driver.new.Goals as goal

pub invariant_of-result : goal.invariant_of-result
invariant_of-result c =
    let count : c.len-pipes.result ≡ length c.worker.inside.to.items = omega (arith, c.len-pipes.ensures, c.worker.inside.to.ok.0) in
    new_driver _ c.args.worker c.in_ok-no_messages.field-0.items c.in_ok-no_messages-2.field-0.items c.len-pipes.result c.worker.view_is c.requires count
    c.in_ok-no_messages.ensures.size c.in_ok-no_messages-2.ensures.size c.in_ok-no_messages.ensures.none c.in_ok-no_messages-2.ensures.none
