-- one instruction before is noted
use Rattle.std.proofs.Common.{arith}
use Rattle.flat_graph.proofs.PlaceLemmas.{place_before}
use Rattle.flat_graph.proofs.places.index_places.Goals as goal

pub loop-number-preserved : goal.loop-number-preserved
loop-number-preserved c = place_before c.args.instrs.now _ c.loop-number.number c.loop-number.places c.place.new.places (omega arith) (omega arith) c.place.ensures c.loop-number.invariant
