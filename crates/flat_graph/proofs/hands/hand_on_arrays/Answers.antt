-- one instruction more hands its marks on
use Rattle.std.proofs.Common.{◌<◌, ◌∙◌, length, sym, ap, subst, arith}
use Rattle.std.specs.Option.{is_some}
use Rattle.dependence.specs.Uses.{Node, Member}
use Rattle.flat_graph.specs.Orders.{as_nodes}
use Rattle.flat_graph.specs.Passes.{HandsOn}
use Rattle.flat_graph.proofs.RowLemmas.{node_seen, nodes_long, all_members}
use Rattle.flat_graph.proofs.HandLemmas.{grows_more, handed_more}
use Rattle.flat_graph.proofs.hands.hand_on_arrays.Goals as goal

pub hand_on-requires-clause-uses : goal.hand_on-requires-clause-uses
hand_on-requires-clause-uses c =
    let ns = c.args.nodes.now in
    let k = c.loop-number.number in
    let is = node_seen ns k c.index-nodes-number.result c.loop-number-test.true c.index-nodes-number.is in
    all_members (λ j. j < length c.loop-number.rows) c.index-nodes-number.result.uses
    (λ j m. subst (λ n. j < n) (sym c.loop-number.invariant.grows.long) (c.requires.ordered.there k j (subst (λ n. k < n) (sym (nodes_long ns)) c.loop-number-test.true) (subst (λ (n : Node). Member j n.uses) (sym is) m)))

pub loop-number-preserved : goal.loop-number-preserved
loop-number-preserved c =
    let ns = c.args.nodes.now in
    let k = c.loop-number.number in
    let is = node_seen ns k c.index-nodes-number.result c.loop-number-test.true c.index-nodes-number.is in
    let there : k < length (as_nodes ns) = subst (λ n. k < n) (sym (nodes_long ns)) c.loop-number-test.true in
    let hands = subst (λ (n : Node). HandsOn c.is_some.result k n.uses c.loop-number.rows c.hand_on.new.rows) (sym is) c.hand_on.ensures.marks in
    let tells = c.is_some.ensures ∙ ap (λ (n : Node). is_some n.array) (sym is) in
    record {
      grows = grows_more (as_nodes ns) c.requires.ordered c.args.rows.now c.loop-number.rows c.hand_on.new.rows k c.is_some.result there c.loop-number.invariant.grows c.hand_on.ensures.long hands;
      handed = handed_more (as_nodes ns) c.requires.ordered c.args.rows.now c.loop-number.rows c.hand_on.new.rows k c.is_some.result there c.loop-number.invariant.grows c.hand_on.ensures.long hands tells c.loop-number.invariant.handed;
    }

pub returns-clause-handed : goal.returns-clause-handed
returns-clause-handed c = λ i a j b less w e m wb h. c.loop-number.invariant.handed i a j b (omega (arith, less)) w e m wb h
