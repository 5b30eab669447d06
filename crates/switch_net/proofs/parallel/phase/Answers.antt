use denote.Param.Send.{sendable}
use Rattle.pipe_driver.proofs.Crossing.{driver_send}
use Rattle.switch_net.proofs.parallel.phase.Goals as goal

pub for_each_mut-requires-send-T : goal.for_each_mut-requires-send-T
for_each_mut-requires-send-T g c κs within = search (sendable, driver_send) depth 20
