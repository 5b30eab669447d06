use Rattle.std.proofs.Common.{◌≡◌, ◌<◌, ℕ, length}
use Rattle.flat_graph.specs.Orders.{as_nodes}
use Rattle.stage_packing.specs.Members.{IsMember, member_of}
use Rattle.stage_packing.proofs.groups.members_of.Given as goal

abbrev pub invariant-loop-number : goal.invariant-loop-number
invariant-loop-number l = record {
  long : length l.members ≡ 16;
  right : (a : ℕ) → a < 16 → IsMember (as_nodes l.nodes) l.number a (member_of l.members a);
}
