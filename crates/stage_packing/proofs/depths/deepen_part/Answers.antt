use Rattle.std.proofs.Common.{◌≡◌, ◌<◌, ◌≤◌, ◌+◌, ◌∙◌, sym, subst, arith, length, slice_index}
use Rattle.flat_graph.specs.Orders.{as_nodes}
use Rattle.flat_graph.proofs.RowLemmas.{nodes_long}
use Rattle.stage_packing.specs.Depths.{Deep, seen}
use Rattle.stage_packing.proofs.DepthLemmas.{deep_next, deep_past, deep_part, seen_few}
use Rattle.stage_packing.proofs.depths.deepen_part.Goals as goal
use Rattle.stage_packing.proofs.depths.deepen_part.Goals.{then-part_of-part, else-part_of-part}

pub raised-depth-requires-clause-small : goal.raised-depth-requires-clause-small
raised-depth-requires-clause-small c = λ k.
    let n : length (as_nodes c.args.nodes.now) ≡ length c.args.nodes.now = nodes_long c.args.nodes.now in
    let m : slice_index c.loop-number.depths k ≤ seen (as_nodes c.args.nodes.now) c.args.spots.now c.args.part c.loop-number.number = c.loop-number.invariant.deep.most k in
    let s = seen_few (as_nodes c.args.nodes.now) c.args.spots.now c.args.part c.loop-number.number in
    omega (arith, m, s, n, c.requires.few, c.loop-number-test.true)

pub loop-number-preserved : goal.loop-number-preserved
loop-number-preserved c =
    let n : length (as_nodes c.args.nodes.now) ≡ length c.args.nodes.now = nodes_long c.args.nodes.now in
    let within : c.loop-number.number < length (as_nodes c.args.nodes.now) = omega (arith, n, c.loop-number-test.true) in
    elim c.if-part_of-part.branch [
      | then-part_of-part w ↦ record {
        long = c.if-part_of-part.auto.depths ∙ c.loop-number.invariant.long;
        deep = subst (Deep (as_nodes c.args.nodes.now) c.args.classes.now c.args.spots.now c.args.part (c.loop-number.number + 1)) (sym w.depths-is)
            (deep_next (as_nodes c.args.nodes.now) c.args.classes.now c.args.spots.now c.requires.runs.in_parts c.args.part c.loop-number.number c.loop-number.depths within
            (sym c.part_of.ensures ∙ w.if-part_of-part.true) c.loop-number.invariant.deep w.raised-depth.result w.raised-depth.ensures
            (let b = c.requires.within c.loop-number.number (omega (arith, c.requires.long, c.loop-number-test.true)) in omega (arith, b, c.loop-number.invariant.long)));
      }
      | else-part_of-part w ↦ record {
        long = c.if-part_of-part.auto.depths ∙ c.loop-number.invariant.long;
        deep = subst (Deep (as_nodes c.args.nodes.now) c.args.classes.now c.args.spots.now c.args.part (c.loop-number.number + 1)) (sym w.depths-is)
            (deep_past (as_nodes c.args.nodes.now) c.args.classes.now c.args.spots.now c.requires.runs.in_parts c.args.part c.loop-number.number c.loop-number.depths
            (λ e. w.if-part_of-part.false (c.part_of.ensures ∙ e)) c.loop-number.invariant.deep);
      }
    ]

pub returns-clause-deep : goal.returns-clause-deep
returns-clause-deep c =
    let n : length (as_nodes c.args.nodes.now) ≡ length c.args.nodes.now = nodes_long c.args.nodes.now in
    let e : c.loop-number.number ≡ length (as_nodes c.args.nodes.now) = omega (arith, n) in
    deep_part (as_nodes c.args.nodes.now) c.args.classes.now c.args.spots.now c.requires.runs.in_parts c.args.part c.loop-number.depths
    (subst (λ k. Deep (as_nodes c.args.nodes.now) c.args.classes.now c.args.spots.now c.args.part k c.loop-number.depths) e c.loop-number.invariant.deep)
