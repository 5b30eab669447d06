use Rattle.std.proofs.Common.{◌≡◌, drop}
use Rattle.code_forms.specs.Staged.{group_from, group_of}
use Rattle.run_answer.proofs.cells.group_of.Given as goal

-- the group is not among the first ones
abbrev pub invariant-loop-g : goal.invariant-loop-g
invariant-loop-g l = group_from (drop l.g l.code.groups) l.g l.a ≡ group_of l.code l.a
