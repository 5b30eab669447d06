use denote.Builtin as builtin
use denote.Param.Send.{IsSend, sendable}
use Rattle.bench_parts.specs.contracts.hops.Message as hopping
use Rattle.bench_parts.specs.contracts.hops.MessageCarried.TheImpl as hopping_impl
use Rattle.pair_lane.specs.contracts.sender.Sender as sender
use Rattle.pair_lane.proofs.Crossing.{sender_send}
use Rattle.bench_parts.proofs.hops.across.Goals as goal

message_send : IsSend hopping.the_row
message_send = search sendable depth 12

pub join-sum-requires-send-F : goal.join-sum-requires-send-F
join-sum-requires-send-F g c κs =
    let s : IsSend (sender.the_row hopping.the_row builtin.unit hopping_impl.ghosts) = sender_send hopping.the_row builtin.unit hopping_impl.ghosts message_send in search sendable depth 20
