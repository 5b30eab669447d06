-- one instruction more
use Rattle.std.proofs.Common.{◌<◌, ◌+◌, ◌∙◌, ◌∷◌, [], length-append, length, sym, ap, subst}
use Rattle.dependence.specs.Uses.{Node}
use Rattle.flat_graph.specs.Orders.{as_nodes}
use Rattle.flat_graph.specs.Passes.{starts_at}
use Rattle.flat_graph.proofs.RowLemmas.{node_seen, nodes_long}
use Rattle.flat_graph.proofs.HandLemmas.{begins_more}
use Rattle.flat_graph.proofs.hands.first_marks.Goals as goal

pub start-requires : goal.start-requires
start-requires c =
    let ns = c.args.nodes.now in
    let k = c.loop-node.node-index in
    let is = node_seen ns k c.node-item.result c.loop-node-test.true c.node-item.is in
    λ a e. c.requires.arrays k a (subst (λ n. k < n) (sym (nodes_long ns)) c.loop-node-test.true) (ap (λ (n : Node). n.array) is ∙ e)

pub loop-node-preserved : goal.loop-node-preserved
loop-node-preserved c =
    let ns = c.args.nodes.now in
    let k = c.loop-node.node-index in
    let is = node_seen ns k c.node-item.result c.loop-node-test.true c.node-item.is in
    let old = c.loop-node.rows.items in
    let pushed = c.in_ok-push.ensures.items in
    record {
      long = ap length pushed ∙ length-append old (_ ∷ []) ∙ ap (λ n. n + 1) c.loop-node.invariant.long;
      marks = λ i b less wb. rw pushed (begins_more (as_nodes ns) c.args.table.now old k c.start.result c.loop-node.invariant.long c.loop-node.invariant.marks
          (λ b wb. c.start.ensures b wb ∙ ap (λ (n : Node). starts_at c.args.table.now n.array b) (sym is)) i b less wb);
    }
