use Rattle.std.proofs.Common.{◌++◌, ap, ◌∙◌, flat_map}
use Rattle.domino_tree.specs.Text.{item_line}
use Rattle.domino_tree.proofs.TextLemmas.{text_parts}
use Rattle.domino_tree.proofs.printing.print.Goals as goal

pub returns-clause-text : goal.returns-clause-text
returns-clause-text c =
    text_parts c.put_items.new.out.items c.put_packet.new.out.items c.put_items-2.new.out.items c.put_function.new.out.items c.args.program.now
    (c.in_ok-put_items.ensures ∙ ap (λ t. t ++ flat_map item_line c.as_slice.result.now) c.new-out.ensures.items ∙ ap (flat_map item_line) c.as_slice.ensures)
    c.in_ok-put_packet.ensures
    (c.in_ok-put_items-2.ensures ∙ ap (λ items. c.put_packet.new.out.items ++ flat_map item_line items) c.as_slice-2.ensures)
    c.in_ok-put_function.ensures
