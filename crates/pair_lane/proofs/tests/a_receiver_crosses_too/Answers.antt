use denote.Builtin as builtin
use denote.Param.Send.{IsSend, sendable}
use Rattle.pair_lane.specs.contracts.tests.Any as any
use Rattle.pair_lane.specs.contracts.tests.AnyCarried.TheImpl as any_impl
use Rattle.pair_lane.specs.contracts.receiver.Receiver as receiver
use Rattle.pair_lane.proofs.Crossing.{receiver_send}
use Rattle.pair_lane.proofs.tests.a_receiver_crosses_too.Goals as goal

any_send : IsSend any.the_row
any_send = search sendable depth 12

pub join-ordered-requires-send-F : goal.join-ordered-requires-send-F
join-ordered-requires-send-F g c κs =
    let r : IsSend (receiver.the_row any.the_row builtin.unit any_impl.ghosts) = receiver_send any.the_row builtin.unit any_impl.ghosts any_send in search sendable depth 20
