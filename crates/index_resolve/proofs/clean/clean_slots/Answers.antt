-- one step more of the pass
use Rattle.std.proofs.Common.{◌<◌, ◌∙◌, Bool, length, ap, subst, arith}
use Rattle.code_forms.specs.FlatMeaning.{copy_in, index_slot, step_value}
use Rattle.flat_graph.specs.Orders.{copies_in}
use Rattle.flat_graph.proofs.NodeLemmas.{instr_here}
use Rattle.index_resolve.specs.Clean.{cleans}
use Rattle.index_resolve.proofs.CleanSteps.{node_count, node_array, clean_more}
use Rattle.index_resolve.proofs.clean.clean_slots.Goals as goal

pub index-requires : goal.index-requires
index-requires c =
    let g = c.args.code.now in
    let less : c.loop-number.number < length g.instrs = subst (λ l. c.loop-number.number < length l) c.as_slice-instrs.ensures c.loop-number-test.true in
    omega (arith, less, node_count g.fields g.arrays g.instrs c.in_ok-graph.graph.nodes.items c.in_ok-graph.ensures)

pub loop-number-preserved : goal.loop-number-preserved
loop-number-preserved c =
    let g = c.args.code.now in
    let k = c.loop-number.number in
    let less : k < length g.instrs = subst (λ l. k < length l) c.as_slice-instrs.ensures c.loop-number-test.true in
    let here = instr_here c.as_slice-instrs.result.now g.instrs k _ c.as_slice-instrs.ensures c.loop-number-test.true in
    let array = ap (λ n. n.array) c.index.ensures ∙ node_array g.fields g.arrays g.instrs c.in_ok-graph.graph.nodes.items k _ _ c.in_ok-graph.ensures less here in
    let made = c.step_clean-value.ensures (index_slot g.instrs g.fields) (copy_in (copies_in g.arrays) 0 k) array
    ∙ (λ j. step_value Bool cleans (index_slot g.instrs g.fields) (c.deref.ensures.value j) (record { instr = here j; copy = copy_in (copies_in g.arrays) 0 k })) in
    rw c.in_ok-push.ensures.items (clean_more (index_slot g.instrs g.fields) (copies_in g.arrays) g.instrs k c.loop-number.clean.items _ c.step_clean-value.result less made c.loop-number.invariant)
