-- there is a row for each instruction
use Rattle.std.proofs.Common.{arith}
use Rattle.flat_graph.proofs.Ordered.{node_length}
use Rattle.code_rows.proofs.answers.told_arrays.Goals as goal

pub tell_row-requires : goal.tell_row-requires
tell_row-requires c =
    let g = c.args.code.now in
    let long = node_length g.fields g.arrays g.instrs in
    omega (arith, c.in_ok-to.ensures.long, c.len-instruction-end.ensures, c.loop-instruction-test.true, long)

pub tell_row-requires-in-loop-instruction : goal.tell_row-requires-in-loop-instruction
tell_row-requires-in-loop-instruction c =
    let g = c.args.code.now in
    let long = node_length g.fields g.arrays g.instrs in
    omega (arith, c.in_ok-from.ensures.long, c.len-instruction-end.ensures, c.loop-instruction-test.true, long)
