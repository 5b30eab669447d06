use Rattle.std.proofs.Common.{arith}
use Rattle.run_laws.specs.Run.{run_of}
use Rattle.pipe_stations.proofs.StartLemmas.{first_more}
use Rattle.pipe_stations.proofs.stations.first_stations.Goals as goal

pub loop-g-preserved : goal.loop-g-preserved
loop-g-preserved c = record {
  stations = first_more (run_of c.args.code.now c.args.capture.now c.args.settings.now) c.args.pipe c.loop-g.g c.loop-g.stations.items _ c.in_ok-new.field-0 c.push_reserved.ensures.items c.loop-g.invariant.stations c.in_ok-new.ensures;
  count = omega (arith, c.push_reserved.ensures.len);
  room = omega (arith, c.push_reserved.ensures.capacity);
}
