use Rattle.std.proofs.Common.{subst}
use Rattle.run_laws.specs.Run.{Run, run_of}
use Rattle.packet_steps.specs.Packet.{HasUnitNumbers}
use Rattle.packet_steps.proofs.WayLemmas.{numbered}
use Rattle.packet_steps.proofs.run_data.RunData.arrive.Goals as goal

pub returns-clause-packet : goal.returns-clause-packet
returns-clause-packet c = record {
  way = c.requires.way;
  units = subst (λ (r : Run). HasUnitNumbers r c.args.t c.places.new.out) c.self.view_is
      (numbered (run_of c.self.inside.code.now c.self.inside.capture.now c.self.inside.settings) c.args.t c.header.result.now c.places.new.out
      c.header.ensures c.places.ensures.few c.places.ensures.places c.places.ensures.rest c.places.ensures.units);
}
