use Rattle.std.proofs.Common.{◌≡◌, map, drop}
use Rattle.mp5_words.specs.Cells.{bits}
use Rattle.flat_graph.specs.Layouts.{is_of}
use Rattle.stage_packing.proofs.groups.set_of.Given as goal

abbrev pub invariant-loop-array : goal.invariant-loop-array
invariant-loop-array l = l.set ≡ bits (map (is_of l.group) (drop l.array l.of))
