-- the definitions among the items so far
use Rattle.std.proofs.Common.{◌≡◌, ◌≤◌, length, take, flat_map}
use Rattle.domino_tree.specs.Value.{item_define}
use Rattle.domino_names.proofs.size_checks.define_count.Given as goal

abbrev pub invariant-loop-item : goal.invariant-loop-item
invariant-loop-item l = record {
  counted : l.count ≡ length (flat_map item_define (take l.item-index l.items));
  within : l.count ≤ l.item-index;
}
