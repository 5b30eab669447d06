-- one instruction more is looked at
use Rattle.std.proofs.Common.{◌≡◌, ◌<◌, ◌+◌, ◌∙◌, ◌∷◌, [], length, length-append, sym, ap, subst}
use Rattle.dependence.specs.Uses.{Node, Member}
use Rattle.dependence.specs.Tables.{has}
use Rattle.flat_graph.specs.Orders.{as_node, as_nodes}
use Rattle.flat_graph.specs.Passes.{shown_by}
use Rattle.flat_graph.proofs.RowLemmas.{node_seen, nodes_long, all_members, shown_more}
use Rattle.flat_graph.proofs.rows.shown.Goals as goal

pub show-row-requires-clause-array : goal.show-row-requires-clause-array
show-row-requires-clause-array c =
    let ns = c.args.nodes.now in
    let k = c.loop-node.node-index in
    let is = node_seen ns k c.node-item.result c.loop-node-test.true c.node-item.is in
    λ a e. c.requires.arrays k a (subst (λ n. k < n) (sym (nodes_long ns)) c.loop-node-test.true) (ap (λ (n : Node). n.array) is ∙ e)

pub show-row-requires-clause-uses : goal.show-row-requires-clause-uses
show-row-requires-clause-uses c =
    let ns = c.args.nodes.now in
    let k = c.loop-node.node-index in
    let is = node_seen ns k c.node-item.result c.loop-node-test.true c.node-item.is in
    let long : length c.deref.result.now ≡ k = ap length c.deref.ensures.value ∙ c.loop-node.invariant.long in
    λ e. all_members (λ j. j < length c.deref.result.now) c.node-item.result.uses
    (λ j m. subst (λ n. j < n) (sym long) (c.requires.earlier k j (subst (λ n. k < n) (sym (nodes_long ns)) c.loop-node-test.true) (ap (λ (n : Node). n.array) is ∙ e) (subst (λ (n : Node). Member j n.uses) (sym is) m)))

pub loop-node-preserved : goal.loop-node-preserved
loop-node-preserved c =
    let ns = c.args.nodes.now in
    let k = c.loop-node.node-index in
    let is = node_seen ns k c.node-item.result c.loop-node-test.true c.node-item.is in
    let old = c.loop-node.rows.items in
    let pushed = c.in_ok-push.ensures.items in
    record {
      long = ap length pushed ∙ length-append old (_ ∷ []) ∙ ap (λ n. n + 1) c.loop-node.invariant.long;
      marks = λ i b less wb. rw pushed (shown_more (as_nodes ns) c.requires old k c.show-row.result c.loop-node.invariant.long (subst (λ n. k < n) (sym (nodes_long ns)) c.loop-node-test.true)
          c.loop-node.invariant.marks
          (λ b wb. rw is (subst (λ rows. has c.show-row.result b ≡ shown_by rows (as_node c.node-item.result) b) c.deref.ensures.value (c.show-row.ensures b wb))) i b less wb);
    }
