-- nothing is amiss at the items so far
use Rattle.std.proofs.Common.{take}
use Rattle.domino_names.specs.First.{NoFault}
use Rattle.domino_names.specs.Checks.{BadLengthAt}
use Rattle.domino_names.specs.Symbols.{defines_in}
use Rattle.domino_names.proofs.size_checks.check_items.Given as goal

abbrev pub invariant-loop-item : goal.invariant-loop-item
invariant-loop-item l = NoFault (BadLengthAt (defines_in l.symbols)) (take l.item-index l.items)
