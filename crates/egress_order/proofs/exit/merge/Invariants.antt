use Rattle.egress_order.proofs.Exits.{MergedBelow}
use Rattle.egress_order.proofs.exit.merge.Given as goal

-- the first own packets stand where they are in order of arrival
abbrev pub invariant-loop-k : goal.invariant-loop-k
invariant-loop-k l = MergedBelow l.exit l.k l.initial.into l.into
