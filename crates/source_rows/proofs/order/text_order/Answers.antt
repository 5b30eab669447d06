use Rattle.std.proofs.Common.{◌++◌, sym, ap, ◌∙◌}
use Rattle.source_rows.specs.Order.{body_touched}
use Rattle.source_rows.proofs.OrderLemmas.{order_is}
use Rattle.source_rows.proofs.order.text_order.Goals as goal

pub returns : goal.returns
returns c =
    c.in_ok-push_block.ensures
    ∙ ap (λ l. l ++ body_touched c.body.result.now) c.new-arrays.ensures
    ∙ ap body_touched c.body.ensures.body
    ∙ sym (order_is c.args.checked.now)
