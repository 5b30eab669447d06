use Rattle.std.proofs.Common.{◌≡◌, length}
use Rattle.dependence.specs.Numbering.{next_after}
use Rattle.flat_graph.specs.Orders.{as_nodes}
use Rattle.stage_packing.specs.Depths.{Deep}
use Rattle.stage_packing.proofs.depths.depths_of.Given as goal

abbrev pub invariant-loop-part : goal.invariant-loop-part
invariant-loop-part l = record {
  long : length l.depths.items ≡ next_after 0 l.classes;
  deep : Deep (as_nodes l.nodes) l.classes l.spots l.part 0 l.depths.items;
}
