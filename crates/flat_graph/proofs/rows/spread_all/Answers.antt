-- one row more is spread
use Rattle.std.proofs.Common.{arith, length-set}
use Rattle.flat_graph.proofs.RowLemmas.{spread_more, spread_left}
use Rattle.flat_graph.proofs.rows.spread_all.Goals as goal

pub loop-row-preserved : goal.loop-row-preserved
loop-row-preserved c = record {
  long = simp length-set c.loop-row.invariant.long;
  done = λ i b less wb. spread_more c.args.table.now c.args.rows.now c.loop-row.rows c.loop-row.row-index c.spread.result (omega (arith, c.loop-row-test.true, c.loop-row.invariant.long)) c.loop-row.invariant.done c.loop-row.invariant.left c.spread.ensures i b less wb;
  left = λ i le. spread_left c.args.rows.now c.loop-row.rows c.loop-row.row-index c.spread.result c.loop-row.invariant.left i le;
}

pub returns : goal.returns
returns c = record {
  long = c.loop-row.invariant.long;
  marks = λ i b w wb. c.loop-row.invariant.done i b (omega (arith, w, c.loop-row.invariant.long)) wb;
}
