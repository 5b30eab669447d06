use Rattle.std.proofs.Common.{◌<◌, ap, ◌∙◌, length, arith}
use Rattle.flat_graph.specs.Orders.{as_nodes}
use Rattle.flat_graph.proofs.RowLemmas.{node_seen, nodes_long}
use Rattle.stage_packing.proofs.MemberLemmas.{member_next}
use Rattle.stage_packing.proofs.groups.members_of.Goals as goal

pub note-requires : goal.note-requires
note-requires c = λ a e.
    let k = c.loop-number.number in
    let lt : k < length (as_nodes c.args.nodes.now) = (let l = nodes_long c.args.nodes.now in omega (arith, l, c.loop-number-test.true)) in
    c.requires.ordered.arrays k a lt (ap (λ n. n.array) (node_seen c.args.nodes.now k _ c.loop-number-test.true c.index-nodes-number.is) ∙ ap (λ n. n.array) c.index-nodes-number.is ∙ e)

pub loop-number-preserved : goal.loop-number-preserved
loop-number-preserved c = record {
  long = c.type_inv.members;
  right = λ a w. member_next (as_nodes c.args.nodes.now) c.loop-number.number a _ _ _ (ap (λ n. n.array) (node_seen c.args.nodes.now c.loop-number.number _ c.loop-number-test.true c.index-nodes-number.is) ∙ ap (λ n. n.array) c.index-nodes-number.is) (c.loop-number.invariant.right a w) (c.note.ensures.given a) (c.note.ensures.left a);
}
