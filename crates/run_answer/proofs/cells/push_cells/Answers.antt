use Rattle.std.proofs.Common.{◌<◌, length, arith}
use Rattle.run_answer.proofs.CellsLemmas.{count_within}
use Rattle.run_answer.proofs.cells.push_cells.Goals as goal

pub push_array-requires-clause-room : goal.push_array-requires-clause-room
push_array-requires-clause-room c =
    let here : c.loop-a.a < length c.args.run.now.code.arrays = omega (arith, c.array_count-a-end.ensures.count) in
    let within = count_within c.args.run.now.code c.loop-a.a (length c.args.run.now.code.arrays) here in
    omega (arith, within, c.loop-a.invariant.len, c.loop-a.invariant.capacity, c.requires.room)
