use Rattle.std.proofs.Common.{◌≡◌, ◌+◌, ◌*◌, ◌≤◌, drop}
use Rattle.code_forms.specs.Staged.{cells_before}
use Rattle.code_forms.specs.Spots.{shares}
use Rattle.code_forms.proofs.table.cells_before.Given as goal

abbrev pub invariant-loop-other : goal.invariant-loop-other
invariant-loop-other l =
    (l.before + cells_before (shares l.flat l.group.sharded) (drop l.other-index l.group.arrays) l.array ≡ cells_before (shares l.flat l.group.sharded) l.group.arrays l.array)
    × (l.before ≤ 65536 * l.other-index)
