use Rattle.std.proofs.Common.{arith}
use Rattle.stage_packing.proofs.UseLemmas.{above_next, least_next, over_all}
use Rattle.stage_packing.proofs.depths.over_uses.Goals as goal

pub loop-used-preserved : goal.loop-used-preserved
loop-used-preserved c = record {
  own = omega (arith, c.loop-used.invariant.own, c.deeper-depth.ensures.least);
  above = above_next c.args.uses.now c.args.classes.now c.args.depths.now c.args.class _ _ _ c.loop-used.invariant.above c.deeper-depth.ensures.least c.deeper-depth.ensures.above;
  least = least_next c.args.uses.now c.args.classes.now c.args.depths.now c.args.class c.loop-used.used-index _ _ (omega arith) c.loop-used.invariant.least c.deeper-depth.ensures.either;
}

pub returns : goal.returns
returns c = over_all c.args.uses.now c.args.classes.now c.args.depths.now c.args.class c.loop-used.used-index _ (omega arith) c.loop-used.invariant.own c.loop-used.invariant.above c.loop-used.invariant.least
