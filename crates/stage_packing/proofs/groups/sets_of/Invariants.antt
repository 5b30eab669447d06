use Rattle.std.proofs.Common.{◌≡◌, length}
use Rattle.flat_graph.specs.Layouts.{AreSets}
use Rattle.stage_packing.proofs.groups.sets_of.Given as goal

abbrev pub invariant-loop-group : goal.invariant-loop-group
invariant-loop-group l = record {
  long : length l.sets.items ≡ l.group;
  right : AreSets l.groups.of l.sets.items;
}
