-- one node more is made
use Rattle.std.proofs.Common.{◌≡◌, ◌<◌, ◌∙◌, List, length, None, sym, ap, subst, arith}
use Rattle.code_forms.specs.declared.flat.FlatArray.{FlatArray}
use Rattle.code_forms.specs.FlatMeaning.{copy_in}
use Rattle.flat_graph.specs.Orders.{HaveArrays, AreWithin, copies_in}
use Rattle.flat_graph.proofs.Ordered.{few_arrays, have_arrays, copies_within}
use Rattle.flat_graph.proofs.NodeLemmas.{any_default, have_more, array_here, instr_here, made_more}
use Rattle.flat_graph.proofs.graph.nodes_of.Goals as goal

pub index_places-places-requires-clause-arrays : goal.index_places-places-requires-clause-arrays
index_places-places-requires-clause-arrays c =
    let g = c.args.code.now in
    subst (HaveArrays 16) (sym c.as_slice-instrs.ensures) (have_more (length g.arrays) 16 g.instrs (few_arrays g.fields g.arrays g.instrs g.last g.valid) (have_arrays g.fields g.arrays g.instrs g.last g.valid))

pub copies_of-requires-clause-copies : goal.copies_of-requires-clause-copies
copies_of-requires-clause-copies c =
    let g = c.args.code.now in
    subst (AreWithin (length c.as_slice-instrs.result.now)) (sym c.as_slice.ensures)
    (subst (λ is. AreWithin (length is) g.arrays) (sym c.as_slice-instrs.ensures) (copies_within g.fields g.arrays g.instrs g.last g.valid))

pub node-requires-clause-array : goal.node-requires-clause-array
node-requires-clause-array c =
    let g = c.args.code.now in
    array_here (length g.arrays) c.as_slice-instrs.result.now c.loop-number.number _ c.loop-number-test.true (subst (HaveArrays (length g.arrays)) (sym c.as_slice-instrs.ensures) (have_arrays g.fields g.arrays g.instrs g.last g.valid))

pub loop-number-preserved : goal.loop-number-preserved
loop-number-preserved c =
    let g = c.args.code.now in
    let k = c.loop-number.number in
    let here : k < length g.instrs = subst (λ l. k < length l) c.as_slice-instrs.ensures c.loop-number-test.true in
    let copy : c.index.result.now ≡ copy_in (copies_in g.arrays) 0 k =
    c.index.ensures ∙ any_default c.in_ok-copies.copies.items k c.index.result.now None (omega (arith, c.in_ok-copies.ensures.long, c.loop-number-test.true))
    ∙ c.in_ok-copies.ensures.copies k c.loop-number-test.true ∙ ap (λ (l : List FlatArray). copy_in (copies_in l) 0 k) c.as_slice.ensures in
    rw c.in_ok-push.ensures.items (made_more g.fields g.arrays g.instrs k _ c.index.result.now c.loop-number.made.items c.in_ok-node.field-0 here (instr_here c.as_slice-instrs.result.now g.instrs k _ c.as_slice-instrs.ensures c.loop-number-test.true) copy c.in_ok-node.ensures c.loop-number.invariant)
