use Rattle.std.proofs.Common.{arith}
use Rattle.shard_rounds.proofs.Tables.{started_at}
use Rattle.shard_rounds.proofs.owners.Owners.start.Goals as goal

pub invariant_of-result : goal.invariant_of-result
invariant_of-result c =
    started_at c.args.units.now _ _ _ _ c.args.pipelines c.args.plans _ _ c.requires.units c.requires.some c.requires.pipelines c.requires.plans
    c.in_ok-from_slice.ensures.items c.in_ok-with_capacity.ensures.items c.in_ok-with_capacity-2.ensures.items (omega arith) (λ g lt. c.loop-g.invariant.rows g (omega arith))
    c.in_ok-with_capacity.ensures.exact c.in_ok-with_capacity-2.ensures.exact
