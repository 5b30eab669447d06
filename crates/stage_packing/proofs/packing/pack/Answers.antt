use Rattle.std.proofs.Common.{◌≡◌, ◌≤◌, ◌∙◌, List, ap, sym, subst, arith, length}
use Rattle.dependence.specs.Reach.{AreClasses}
use Rattle.dependence.specs.Uses.{Node, Depends}
use Rattle.flat_graph.specs.Nodes.{nodes}
use Rattle.flat_graph.specs.Orders.{as_nodes}
use Rattle.flat_graph.proofs.Ordered.{node_length, few_instrs}
use Rattle.flat_graph.proofs.RowLemmas.{nodes_long}
use Rattle.stage_packing.proofs.packing.pack.Goals as goal

pub layout_of-requires-clause-few : goal.layout_of-requires-clause-few
layout_of-requires-clause-few c =
    let g = c.args.code.now in
    let e : as_nodes c.deref.result.now ≡ nodes g = ap as_nodes c.deref.ensures.value ∙ c.in_ok-graph.ensures in
    let few : length g.instrs ≤ 1024 = few_instrs g.fields g.arrays g.instrs g.last g.valid in
    let long : length (nodes g) ≡ length g.instrs = node_length g.fields g.arrays g.instrs in
    let same : length (as_nodes c.deref.result.now) ≡ length (nodes g) = ap length e in
    let n = nodes_long c.deref.result.now in
    omega (arith, few, long, same, n)

pub layout_of-requires-clause-classes : goal.layout_of-requires-clause-classes
layout_of-requires-clause-classes c =
    let g = c.args.code.now in
    let e : as_nodes c.deref.result.now ≡ nodes g = ap as_nodes c.deref.ensures.value ∙ c.in_ok-graph.ensures in
    let long : length g.instrs ≡ length (nodes g) = sym (node_length g.fields g.arrays g.instrs) in
    subst (AreClasses (Depends (as_nodes c.deref.result.now)) (length (as_nodes c.deref.result.now))) (sym c.as_slice.ensures)
    (subst (λ (ns : List Node). AreClasses (Depends ns) (length ns) c.args.codelets.now.of) (sym e)
    (subst (λ n. AreClasses (Depends (nodes g)) n c.args.codelets.now.of) long c.requires))
