-- Both ends of a lane may cross threads, where its items may.
use denote.Builtin as builtin
use denote.RattleType.{RattleType}
use denote.Struct.Field.{unit-field, usize-field, u64-field}
use denote.Param.Send.{IsSend, IsSync, view_send, sendable}
use denote.Param.SendFields.{declared_send, declared_sync, as_row_send, as_row_sync}
use Rattle.std.proofs.Crossing as crossing
use Rattle.std.specs.contracts.snapshot.Snapshot as snapshot
use Rattle.std.specs.contracts.sync.Arc as arc
use Rattle.std.specs.contracts.option.Option as option
use Rattle.std.specs.contracts.alloc.Global as heap
use Rattle.std.specs.contracts.impls.GlobalAllocator.TheImpl as heap_impl
use Rattle.atomic_table.specs.declared.shared.TableRule.{Ghosts as Rule}
use Rattle.atomic_table.specs.contracts.owned.Table as table
use Rattle.atomic_table.specs.contracts.shared.Seat as seat
use Rattle.atomic_table.proofs.shared.Seat.TheSendSync as seat_crossing
use Rattle.atomic_table.proofs.owned.Table.TheSendSync as table_crossing
use Rattle.crossbeam_queue.specs.contracts.array_queue.Doing as doing
use Rattle.crossbeam_queue.specs.contracts.array_queue.Slotted as slotted
use Rattle.crossbeam_queue.specs.contracts.array_queue.Turns as turns
use Rattle.crossbeam_queue.specs.contracts.array_queue.TurnsTableRuleOptionDoingUnit.TheImpl as turns_impl
use Rattle.pair_lane.specs.declared.carried.Carried.{Ghosts}
use Rattle.pair_lane.specs.contracts.rule.Known as known
use Rattle.pair_lane.specs.contracts.rule.Lane as lane
use Rattle.pair_lane.specs.contracts.rule.LaneProtocolSlipKeyKnownKey.TheImpl as lane_impl
use Rattle.pair_lane.specs.contracts.rule.Slip as slip
use Rattle.pair_lane.specs.contracts.receiver.Receiver as receiver
use Rattle.pair_lane.specs.contracts.receiver.Receiver.TheInside as receiver_inside
use Rattle.pair_lane.specs.contracts.sender.Sender as sender
use Rattle.pair_lane.specs.contracts.sender.Sender.TheInside as sender_inside

-- a snapshot has no bytes
snapshot_send : (K : RattleType) → IsSend (snapshot.the_row K)
snapshot_send K = record { owned = λ d vs. ((λ vss. (tt, ((λ uss. (tt, tt)), tt))), tt); leaving = λ k f vs. tt }

-- a queue under a rule may cross threads, and be shared by them, where its items may cross
module _ (S D Q : RattleType) (g : Rule Q.Denot S.Denot D.Denot unit-field.Value) (s : IsSend S) where
  line_send : IsSend (slotted.the_row S D Q heap.the_row g heap_impl.ghosts)
  line_send = declared_send (slotted.the_type S D Q heap.the_row g heap_impl.ghosts) (
    as_row_send (table.the_field S D builtin.unit Q heap.the_row g heap_impl.ghosts)
        (table_crossing.the_field_send S D builtin.unit Q heap.the_row g heap_impl.ghosts s crossing.send crossing.frees),
    (as_row_send usize-field (search sendable depth 4), (as_row_send u64-field (search sendable depth 4), tt)),
  )

  line_sync : IsSync (slotted.the_row S D Q heap.the_row g heap_impl.ghosts)
  line_sync = declared_sync (slotted.the_type S D Q heap.the_row g heap_impl.ghosts) (
    as_row_sync (table.the_field S D builtin.unit Q heap.the_row g heap_impl.ghosts)
        (table_crossing.the_field_sync S D builtin.unit Q heap.the_row g heap_impl.ghosts s crossing.send crossing.sync crossing.frees),
    (as_row_sync usize-field (search sendable depth 4), (as_row_sync u64-field (search sendable depth 4), tt)),
  )

module _ (T K : RattleType) (g : Ghosts T.Denot K.Denot) (s : IsSend T) where
  slip_send : IsSend (slip.the_row T K)
  slip_send = let k : IsSend (snapshot.the_row K) = snapshot_send K in search sendable depth 20

  abbrev Cell : RattleType
  Cell = option.the_row (slip.the_row T K)

  abbrev View : RattleType
  View = doing.the_row (slip.the_row T K) (known.the_row T K)

  abbrev Turn : RattleType
  Turn = turns.the_row (lane.the_row T)

  abbrev rule : Rule Turn.Denot Cell.Denot View.Denot unit-field.Value
  rule = turns_impl.ghosts (slip.the_row T K) (known.the_row T K) (lane.the_row T)
      (lane_impl.ghosts T K g lane_impl.no_dict lane_impl.no_dict lane_impl.no_dict) turns_impl.no_dict

  abbrev Line : RattleType
  Line = slotted.the_row Cell View Turn heap.the_row rule heap_impl.ghosts

  cell_send : IsSend Cell
  cell_send = let i : IsSend (slip.the_row T K) = slip_send in search sendable depth 12

  pass_send : IsSend (seat.the_row Cell View)
  pass_send = seat_crossing.the_send Cell View cell_send

  shared_send : IsSend (arc.the_row Line heap.the_row heap_impl.ghosts)
  shared_send = crossing.Arc-send Line (line_send Cell View Turn rule cell_send) (line_sync Cell View Turn rule cell_send)

  pub sender_send : IsSend (sender.the_row T K g)
  sender_send = view_send (sender_inside.the_row T K g) _ _ _ _ (declared_send (sender_inside.the_type T K g) (
    as_row_send (arc.the_field Line heap.the_row heap_impl.ghosts) shared_send,
    (as_row_send (seat.the_field Cell View) pass_send, (as_row_send (snapshot.the_field K) (snapshot_send K), tt)),
  ))

  pub receiver_send : IsSend (receiver.the_row T K g)
  receiver_send = view_send (receiver_inside.the_row T K g) _ _ _ _ (declared_send (receiver_inside.the_type T K g) (
    as_row_send (arc.the_field Line heap.the_row heap_impl.ghosts) shared_send,
    (as_row_send (seat.the_field Cell View) pass_send, (as_row_send (snapshot.the_field K) (snapshot_send K), tt)),
  ))
