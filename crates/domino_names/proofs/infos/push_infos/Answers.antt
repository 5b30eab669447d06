use Rattle.std.proofs.Common.{◌++◌, flat_map, ap, ◌∙◌}
use Rattle.std.proofs.lemmas.List.{take_all}
use Rattle.domino_names.specs.Infos.{item_info}
use Rattle.domino_names.specs.Symbols.{defines_in}
use Rattle.domino_names.proofs.CountLemmas.{flat_more}
use Rattle.domino_names.proofs.infos.push_infos.Goals as goal

pub loop-item-preserved : goal.loop-item-preserved
loop-item-preserved c =
    flat_more (item_info (defines_in c.args.symbols.now)) c.args.out.now c.loop-item.out c.push_info.new.out c.args.items.now c.loop-item.item-index c.item-item.result c.loop-item-test.true c.item-item.is
    c.loop-item.invariant c.in_ok-push_info.ensures

pub returns : goal.returns
returns c =
    c.loop-item.invariant
    ∙ ap (λ items. c.args.out.now ++ flat_map (item_info (defines_in c.args.symbols.now)) items) (take_all c.loop-item.item-index c.args.items.now c.loop-item-test.false)
