-- the declarations of the items so far, and the number of the next array
use Rattle.std.proofs.Common.{◌≡◌, ◌≤◌, ◌+◌, ◌++◌, take}
use Rattle.domino_names.specs.Symbols.{arrays_after, item_symbols}
use Rattle.domino_names.proofs.declarations.push_items.Given as goal

abbrev pub invariant-loop-item : goal.invariant-loop-item
invariant-loop-item l = record {
  pushed : l.out.items ≡ l.initial.out.items ++ item_symbols l.arrays (take l.item-index l.items);
  next : l.next ≡ arrays_after l.arrays (take l.item-index l.items);
  within : l.next ≤ l.arrays + l.item-index;
}
