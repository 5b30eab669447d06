use Rattle.std.proofs.Common.{◌++◌, map, flat_map, ap, ◌∙◌}
use Rattle.std.proofs.lemmas.List.{take_all}
use Rattle.domino_tree.specs.Value.{Array, item_array}
use Rattle.domino_names.specs.Symbols.{defines_in}
use Rattle.domino_names.proofs.CountLemmas.{lengths_more}
use Rattle.domino_names.proofs.size_checks.push_lengths.Goals as goal

pub loop-item-preserved : goal.loop-item-preserved
loop-item-preserved c =
    lengths_more (item_array (defines_in c.args.symbols.now)) c.args.out.now.items c.loop-item.out.items c.push_length.new.out.items c.args.items.now c.loop-item.item-index c.item-item.result c.loop-item-test.true c.item-item.is
    c.loop-item.invariant c.in_ok-push_length.ensures

pub returns : goal.returns
returns c =
    c.loop-item.invariant
    ∙ ap (λ items. c.args.out.now.items ++ map (λ (a : Array). a.length) (flat_map (item_array (defines_in c.args.symbols.now)) items)) (take_all c.loop-item.item-index c.args.items.now c.loop-item-test.false)
