use Rattle.pipe_worker.proofs.ServeLemmas.{waits_nowhere, taken_packet, room_there, serves_it}
use Rattle.pipe_worker.proofs.pipe.Pipe.serve.Goals as goal

pub take_waiting-packet-requires-clause-waiting : goal.take_waiting-packet-requires-clause-waiting
take_waiting-packet-requires-clause-waiting c = waits_nowhere _ c.args.self.now c.self.view_is c.self.invariant.0 c.args.g c.args.place c.requires.ready c.requires.given c.requires.lined c.requires.row

pub serve-requires-clause-packet : goal.serve-requires-clause-packet
serve-requires-clause-packet c =
    taken_packet _ c.args.self.now c.self.view_is c.self.invariant.0 c.args.g c.args.place c.requires.ready c.requires.given c.requires.lined c.requires.row c.take_waiting-packet.result c.take_waiting-packet.ensures.packet

pub stand-requires-clause-room : goal.stand-requires-clause-room
stand-requires-clause-room c =
    room_there _ c.args.self.now c.self.view_is c.self.invariant.0 c.args.g c.args.place c.requires.ready c.requires.given c.requires.lined c.requires.row c.take_waiting-packet.result c.take_waiting-packet.ensures.packet
    c.serve.new.packet c.take_waiting-packet.new.self c.take_waiting-packet.ensures.gone c.serve.ensures.group c.serve.ensures.arrival

pub invariant_of-self : goal.invariant_of-self
invariant_of-self c =
    let serves = serves_it _ c.args.self.now c.self.view_is c.self.invariant.0 c.args.g c.args.place c.requires.ready c.requires.given c.requires.lined c.requires.row c.take_waiting-packet.result
    c.take_waiting-packet.ensures.packet c.serve.new.packet c.take_waiting-packet.new.self c.take_waiting-packet.ensures.gone c.serve.ensures.group c.serve.ensures.arrival c.stand.new.packets c.serve.new.self
    c.serve.ensures.units c.serve.ensures.packet c.stand.ensures c.serve.ensures.station in
    (serves.laws, c.self.invariant.1, c.self.invariant.2)

pub returns : goal.returns
returns c =
    (serves_it _ c.args.self.now c.self.view_is c.self.invariant.0 c.args.g c.args.place c.requires.ready c.requires.given c.requires.lined c.requires.row c.take_waiting-packet.result
    c.take_waiting-packet.ensures.packet c.serve.new.packet c.take_waiting-packet.new.self c.take_waiting-packet.ensures.gone c.serve.ensures.group c.serve.ensures.arrival c.stand.new.packets c.serve.new.self
    c.serve.ensures.units c.serve.ensures.packet c.stand.ensures c.serve.ensures.station).event
