-- the arrays of the items so far
use Rattle.std.proofs.Common.{◌≡◌, ◌++◌, take}
use Rattle.domino_names.specs.Symbols.{infos_in}
use Rattle.domino_names.proofs.infos.push_infos.Given as goal

abbrev pub invariant-loop-item : goal.invariant-loop-item
invariant-loop-item l = l.out ≡ l.initial.out ++ infos_in l.symbols (take l.item-index l.items)
