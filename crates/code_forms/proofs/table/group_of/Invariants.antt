use Rattle.std.proofs.Common.{◌≡◌, drop}
use Rattle.code_forms.specs.Staged.{group_from}
use Rattle.code_forms.proofs.table.group_of.Given as goal

abbrev pub invariant-loop-g : goal.invariant-loop-g
invariant-loop-g l = group_from (drop l.g l.groups) l.g l.array ≡ group_from l.groups 0 l.array
