-- one instruction more is looked at
use Rattle.std.proofs.Common.{◌≡◌, ◌<◌, ◌∙◌, length, sym, ap, subst}
use Rattle.dependence.specs.Uses.{Node, Member}
use Rattle.flat_graph.specs.Orders.{as_nodes}
use Rattle.flat_graph.specs.Passes.{needs_by}
use Rattle.std.specs.Prelude.{◌||◌}
use Rattle.dependence.specs.Tables.{at}
use Rattle.flat_graph.proofs.RowLemmas.{node_seen, nodes_long, all_members, nothing_at, needs_more}
use Rattle.flat_graph.proofs.rows.needed.Goals as goal

pub loop-node-init : goal.loop-node-init
loop-node-init c = λ a b wa wb. nothing_at 16 16 a b

pub need-requires-clause-array : goal.need-requires-clause-array
need-requires-clause-array c =
    let ns = c.args.nodes.now in
    let k = c.loop-node.node-index in
    let is = node_seen ns k c.node-item.result c.loop-node-test.true c.node-item.is in
    λ a e. c.requires.ordered.arrays k a (subst (λ n. k < n) (sym (nodes_long ns)) c.loop-node-test.true) (ap (λ (n : Node). n.array) is ∙ e)

pub need-requires-clause-uses : goal.need-requires-clause-uses
need-requires-clause-uses c =
    let ns = c.args.nodes.now in
    let k = c.loop-node.node-index in
    let is = node_seen ns k c.node-item.result c.loop-node-test.true c.node-item.is in
    let long : length c.args.rows.now ≡ length (as_nodes ns) = c.requires.long ∙ sym (nodes_long ns) in
    all_members (λ j. j < length c.args.rows.now) c.node-item.result.uses
    (λ j m. subst (λ n. j < n) (sym long) (c.requires.ordered.there k j (subst (λ n. k < n) (sym (nodes_long ns)) c.loop-node-test.true) (subst (λ (n : Node). Member j n.uses) (sym is) m)))

pub loop-node-preserved : goal.loop-node-preserved
loop-node-preserved c =
    let ns = c.args.nodes.now in
    let k = c.loop-node.node-index in
    let is = node_seen ns k c.node-item.result c.loop-node-test.true c.node-item.is in
    λ a b wa wb.
    needs_more c.args.rows.now c.loop-node.table c.need.new.table (as_nodes ns) k a b (subst (λ n. k < n) (sym (nodes_long ns)) c.loop-node-test.true)
    (c.loop-node.invariant a b wa wb)
    (c.need.ensures a b wa wb ∙ ap (λ (n : Node). at c.loop-node.table a b || needs_by c.args.rows.now a b n) (sym is))
