-- A driver may cross threads.
use denote.Ref.{NamedLft}
use denote.RattleType.{RattleType}
use denote.Struct.Field.{u32-field}
use denote.Param.Send.{IsSend, IsSync, view_send, view_sync, sendable}
use denote.Param.SendFields.{declared_send, declared_sync, as_row_send, as_row_sync}
use Rattle.std.proofs.Crossing.{crosses}
use Rattle.sqlite_items.specs.contracts.items.Items as items
use Rattle.code_forms.specs.contracts.flat.Operand as operand
use Rattle.code_forms.specs.contracts.flat.Instr as instr
use Rattle.code_forms.specs.contracts.flat.FlatArray as array
use Rattle.code_forms.specs.contracts.spot.Spot as spot
use Rattle.code_forms.specs.contracts.parts.HeaderStep as step
use Rattle.code_forms.specs.contracts.parts.StagedGroup as group
use Rattle.code_forms.specs.contracts.parts.StagedParts as parts
use Rattle.code_forms.specs.contracts.staged.StagedCode as staged
use Rattle.code_forms.specs.contracts.staged.StagedCode.TheInside as inside
use Rattle.capture_io.specs.contracts.capture.Capture as capture
use Rattle.pipe_parts.specs.contracts.env.Env as env
use Rattle.pair_lane.specs.contracts.sender.Sender as sender
use Rattle.pair_lane.specs.contracts.receiver.Receiver as receiver
use Rattle.pair_lane.proofs.Crossing.{sender_send, receiver_send}
use Rattle.pipe_messages.specs.contracts.message.Message as message
use Rattle.pipe_messages.specs.contracts.message.LaneKey as key
use Rattle.pipe_messages.specs.contracts.message.MessageCarried.TheImpl as carried
use Rattle.pipe_parts.specs.contracts.outbox.Outbox as outbox
use Rattle.code_forms.specs.contracts.unit.Unit as unit
use Rattle.packet_steps.specs.contracts.run_data.RunData as run
use Rattle.shard_rounds.specs.contracts.owners.Owners as owners
use Rattle.home_door.specs.contracts.door.HomeDoor as door
use Rattle.packet_lines.specs.contracts.lines.PacketLines as packets
use Rattle.place_queue.specs.contracts.queue.Places as places
use Rattle.group_station.specs.contracts.station.Station as station
use Rattle.pipe_stations.specs.contracts.stations.Stations as stations
use Rattle.pipe_worker.specs.contracts.pipe.Pipe as pipe
use Rattle.pipe_worker.specs.contracts.pipe.Pipe.TheInside as pipe_inside
use Rattle.switch_worker.specs.contracts.worker.Worker as worker
use Rattle.pipe_driver.specs.contracts.driver.Driver as driver

-- ---- the code and the capture of a run are shared

items_sync : (T : RattleType) → IsSync T → IsSync (items.the_row T)
items_sync T s = search (sendable, crosses) depth 40

operand_sync : IsSync operand.the_row
operand_sync = search (sendable, crosses) depth 40

instr_sync : IsSync instr.the_row
instr_sync = search (sendable, crosses) depth 40 fits 20000

array_sync : IsSync array.the_row
array_sync = search (sendable, crosses, items_sync, operand_sync) depth 40

spot_sync : IsSync spot.the_row
spot_sync = search (sendable, crosses) depth 40

step_sync : IsSync step.the_row
step_sync = declared_sync step.the_type (instr_sync, (as_row_sync u32-field (search sendable depth 4), tt))

group_sync : IsSync group.the_row
group_sync = search (sendable, crosses, items_sync) depth 40

parts_sync : IsSync parts.the_row
parts_sync = search (sendable, crosses, items_sync, group_sync, step_sync) depth 40

staged_sync : IsSync staged.the_row
staged_sync = view_sync inside.the_row _ _ _ _ (declared_sync inside.the_type (
  as_row_sync u32-field (search sendable depth 4),
  (
    items_sync array.the_row array_sync,
    (
      items_sync instr.the_row instr_sync,
      (
        items_sync operand.the_row operand_sync,
        (
          parts_sync,
          (
            items_sync spot.the_row spot_sync,
            (
              items_sync step.the_row step_sync,
              (items_sync step.the_row step_sync, tt),
            ),
          ),
        ),
      ),
    ),
  ),
))

capture_sync : IsSync capture.the_row
capture_sync = search (sendable, crosses) depth 40

-- ---- messages and lanes

env_send : IsSend env.the_row
env_send = search (sendable, crosses) depth 40

message_send : IsSend message.the_row
message_send = search (sendable, crosses, env_send) depth 40

to_send : IsSend (sender.the_row message.the_row key.the_row carried.ghosts)
to_send = sender_send message.the_row key.the_row carried.ghosts message_send

from_send : IsSend (receiver.the_row message.the_row key.the_row carried.ghosts)
from_send = receiver_send message.the_row key.the_row carried.ghosts message_send

-- ---- a pipe's parts

run_send : (κ : NamedLft) → IsSend (run.the_row κ)
run_send κ = search (sendable, crosses, staged_sync, capture_sync) depth 40

owners_send : IsSend owners.the_row
owners_send = search (sendable, crosses) depth 40

door_send : IsSend door.the_row
door_send = search (sendable, crosses, env_send) depth 40

packets_send : IsSend packets.the_row
packets_send = search (sendable, crosses, env_send) depth 40

unit_send : IsSend unit.the_row
unit_send = search (sendable, crosses) depth 40

places_send : IsSend places.the_row
places_send = search (sendable, crosses) depth 40

station_send : (κ : NamedLft) → IsSend (station.the_row κ)
station_send κ = search (sendable, crosses, staged_sync, capture_sync, places_send, unit_send) depth 40

row_send : (κ : NamedLft) → IsSend (stations.the_row κ)
row_send κ = search (sendable, crosses, staged_sync, capture_sync, station_send) depth 40

outbox_send : IsSend (outbox.the_row message.the_row)
outbox_send = search (sendable, crosses, message_send) depth 40

pipe_send : (κ : NamedLft) → IsSend (pipe.the_row κ)
pipe_send κ = view_send (pipe_inside.the_row κ) _ _ _ _ (declared_send (pipe_inside.the_type κ) (
  run_send κ,
  (
    as_row_send u32-field (search sendable depth 4),
    (
      owners_send,
      (
        door_send,
        (
          packets_send,
          (
            row_send κ,
            (
              outbox_send,
              (
                search (sendable, crosses) depth 20,
                (search (sendable, crosses) depth 20, tt),
              ),
            ),
          ),
        ),
      ),
    ),
  ),
))

-- ---- a driver

worker_send : (κ : NamedLft) → IsSend (worker.the_row κ)
worker_send κ = search (sendable, crosses, pipe_send, to_send, from_send) depth 40

pub driver_send : (κ : NamedLft) → IsSend (driver.the_row κ)
driver_send κ = search (sendable, crosses, worker_send, message_send) depth 40
