use Rattle.std.proofs.Common.{take, arith}
use Rattle.shard_rounds.proofs.Choosing.{no_loads}
use Rattle.shard_rounds.proofs.loads.Loads.start.Goals as goal

pub invariant_of-result : goal.invariant_of-result
invariant_of-result c = record {
  groups = omega arith;
  few = λ g. rw c.loop-g.invariant.counts (let none = no_loads (take c.loop-g.g c.args.units.now) g in omega arith);
}
