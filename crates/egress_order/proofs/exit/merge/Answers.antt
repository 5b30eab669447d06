use Rattle.std.proofs.Common.{◌*◌, arith}
use Rattle.egress_order.proofs.Pieces.{row_length}
use Rattle.egress_order.proofs.Exits.{merged_step, merged_end}
use Rattle.egress_order.proofs.exit.merge.Goals as goal

pub loop-k-preserved : goal.loop-k-preserved
loop-k-preserved c =
    merged_step _ _ c.loop-k.k _ _ _ _ c.exit.view_is c.exit.invariant.laws (omega (arith, c.len-k-end.ensures)) c.requires.size (rw (c.deref.ensures.value, row_length (c.loop-k.k * c.exit.inside.fields) c.exit.inside.fields)) c.loop-k.invariant c.write.ensures

pub returns : goal.returns
returns c = merged_end _ _ c.loop-k.k _ _ c.exit.view_is c.exit.invariant.laws (omega (arith, c.len-k-end.ensures)) c.loop-k.invariant
