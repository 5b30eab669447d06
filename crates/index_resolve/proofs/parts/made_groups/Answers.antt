-- one group more
use Rattle.index_resolve.proofs.ResolveLemmas.{made_more, made_length}
use Rattle.index_resolve.proofs.parts.made_groups.Goals as goal

pub loop-number-preserved : goal.loop-number-preserved
loop-number-preserved c =
    let old = c.loop-number.groups in
    let n = c.loop-number.number in record {
      count = made_length old c.push.new.self c.in_ok-group.field-0 n c.loop-number.invariant.count c.in_ok-push.ensures.ok;
      each = made_more c.args.code.now c.args.layout.now c.args.clean.now c.args.classes.now n old c.push.new.self c.in_ok-group.field-0 c.loop-number.invariant.count c.loop-number.invariant.each
          c.in_ok-group.ensures c.in_ok-push.ensures.ok;
    }
