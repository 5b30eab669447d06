use Rattle.std.proofs.Common.{◌*◌}
use Rattle.dependence.specs.Leaders.{Numbered}
use Rattle.dependence.proofs.groups.number_groups.Given as goal

abbrev pub invariant-loop-level : goal.invariant-loop-level
invariant-loop-level l = Numbered l.levels l.leaders (16 * l.level) l.groups
