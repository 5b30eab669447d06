use Rattle.pipe_worker.proofs.StepLemmas.{send_left, send_done}
use Rattle.pipe_worker.proofs.pipe.Pipe.send_first.Goals as goal

pub invariant_of-self : goal.invariant_of-self
invariant_of-self c = (
  send_left _ _ c.self.view_is c.self.invariant.0 c.requires.lines c.args.to c.requires.can c.take_first-packet.result c.take_first-packet.ensures.packet
      _ _ c.groups.result c.departing-message.result c.take_first-packet.ensures.gone c.groups.ensures c.departing-message.ensures c.push.ensures,
  c.self.invariant.1,
  c.self.invariant.2,
)

pub returns : goal.returns
returns c =
    send_done _ _ c.self.view_is c.self.invariant.0 c.requires.lines c.args.to c.requires.can c.take_first-packet.result c.take_first-packet.ensures.packet
    _ _ c.groups.result c.departing-message.result c.take_first-packet.ensures.gone c.groups.ensures c.departing-message.ensures c.push.ensures
