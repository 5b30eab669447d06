use Rattle.std.proofs.Common.{◌≡◌, length}
use Rattle.flat_graph.specs.Orders.{as_nodes}
use Rattle.stage_packing.specs.Depths.{Deep}
use Rattle.stage_packing.proofs.depths.deepen_part.Given as goal

abbrev pub invariant-loop-number : goal.invariant-loop-number
invariant-loop-number l = record {
  long : length l.depths ≡ length l.fn.depths;
  deep : Deep (as_nodes l.nodes) l.classes l.spots l.part l.number l.depths;
}
