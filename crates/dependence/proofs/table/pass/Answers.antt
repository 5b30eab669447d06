use Rattle.std.proofs.Common.{arith, length-set}
use Rattle.dependence.proofs.TableLemmas.{row_done, row_left}
use Rattle.dependence.proofs.table.pass.Goals as goal

pub loop-row-preserved : goal.loop-row-preserved
loop-row-preserved c = record {
  long = simp length-set c.loop-row.invariant.long;
  done = λ a b below wb. row_done _ _ _ _ a b _ _ (omega arith) c.loop-row.invariant.done c.loop-row.invariant.left c.pass_row.ensures below wb;
  left = λ a b above. row_left _ _ _ a b _ (omega arith) c.loop-row.invariant.left above;
}
