use Rattle.std.proofs.Common.{◌≡◌, ◌<◌, ◌+◌, ◌*◌, ap, sym, subst, arith, length, slice_index}
use Rattle.dependence.specs.Numbering.{next_after}
use Rattle.dependence.proofs.ClassLemmas.{below}
use Rattle.flat_graph.specs.Orders.{as_nodes}
use Rattle.flat_graph.proofs.RowLemmas.{nodes_long}
use Rattle.stage_packing.specs.Depths.{Deep}
use Rattle.stage_packing.proofs.EndLemmas.{are_depths, depths_small}
use Rattle.stage_packing.proofs.depths.depths_of.Goals as goal

pub deepen_part-requires-clause-within : goal.deepen_part-requires-clause-within
deepen_part-requires-clause-within c = λ i w. let b : slice_index c.args.classes.now i < next_after 0 c.args.classes.now = below 0 c.args.classes.now i w in omega (arith, b, c.loop-part.invariant.long, ap length c.deref_mut.ensures.value)

pub returns-clause-depths : goal.returns-clause-depths
returns-clause-depths c =
    let n : length c.args.nodes.now ≡ length (as_nodes c.args.nodes.now) = sym (nodes_long c.args.nodes.now) in
    let e : c.loop-part.part ≡ 2 * c.args.groups.now.count + 1 = omega arith in
    are_depths (as_nodes c.args.nodes.now) c.args.classes.now c.requires.classes c.args.spots.now (2 * c.args.groups.now.count + 1)
    c.requires.runs.low c.loop-part.depths.items (subst (λ p. Deep (as_nodes c.args.nodes.now) c.args.classes.now c.args.spots.now p 0 c.loop-part.depths.items) e c.loop-part.invariant.deep) c.loop-part.invariant.long

pub returns-clause-small : goal.returns-clause-small
returns-clause-small c = λ k w.
    let n : length c.args.nodes.now ≡ length (as_nodes c.args.nodes.now) = sym (nodes_long c.args.nodes.now) in
    let e : c.loop-part.part ≡ 2 * c.args.groups.now.count + 1 = omega arith in
    let s = depths_small (as_nodes c.args.nodes.now) c.args.classes.now c.requires.classes c.args.spots.now (2 * c.args.groups.now.count + 1)
    c.requires.runs.low c.loop-part.depths.items (subst (λ p. Deep (as_nodes c.args.nodes.now) c.args.classes.now c.args.spots.now p 0 c.loop-part.depths.items) e c.loop-part.invariant.deep) c.loop-part.invariant.long k w in
    omega (arith, s, n)
