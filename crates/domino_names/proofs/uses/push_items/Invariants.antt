-- the uses in the items so far
use Rattle.std.proofs.Common.{◌≡◌, ◌++◌, flat_map, take}
use Rattle.domino_names.specs.Uses.{item_uses}
use Rattle.domino_names.proofs.uses.push_items.Given as goal

abbrev pub invariant-loop-item : goal.invariant-loop-item
invariant-loop-item l = l.out.items ≡ l.initial.out.items ++ flat_map item_uses (take l.item-index l.items)
