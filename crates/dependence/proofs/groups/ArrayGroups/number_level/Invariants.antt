use Rattle.std.proofs.Common.{◌+◌, ◌*◌}
use Rattle.dependence.specs.Leaders.{Numbered}
use Rattle.dependence.proofs.groups.ArrayGroups.number_level.Given as goal

abbrev pub invariant-loop-array : goal.invariant-loop-array
invariant-loop-array l = Numbered l.levels l.leaders (16 * l.level + l.array) l.self
