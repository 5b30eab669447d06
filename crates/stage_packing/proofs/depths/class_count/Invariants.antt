use Rattle.std.proofs.Common.{◌≡◌, drop}
use Rattle.dependence.specs.Numbering.{next_after}
use Rattle.stage_packing.proofs.depths.class_count.Given as goal

abbrev pub invariant-loop-class : goal.invariant-loop-class
invariant-loop-class l = next_after l.count (drop l.class-index l.classes) ≡ next_after 0 l.classes
