-- the lengths of the arrays among the items so far
use Rattle.std.proofs.Common.{◌≡◌, ◌++◌, take}
use Rattle.domino_names.specs.Symbols.{lengths_in}
use Rattle.domino_names.proofs.size_checks.push_lengths.Given as goal

abbrev pub invariant-loop-item : goal.invariant-loop-item
invariant-loop-item l = l.out.items ≡ l.initial.out.items ++ lengths_in l.symbols (take l.item-index l.items)
