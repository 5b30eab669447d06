use Rattle.std.proofs.Common.{None, arith, length-set, ◌∙◌}
use Rattle.std.specs.List.{slice_index_or}
use Rattle.domino_check.specs.SourceGroups.{StandsBehind}
use Rattle.source_rows.proofs.NeedLemmas.{rows_more}
use Rattle.source_rows.proofs.table.table_of.Goals as goal

pub loop-a-preserved : goal.loop-a-preserved
loop-a-preserved c = (
  rows_more c.loop-a.table c.loop-a.a c.row_at.result (λ k b. StandsBehind b (slice_index_or c.args.copies.now k None)) (omega (arith, c.loop-a.invariant.1, c.loop-a-test.true)) c.loop-a.invariant.0 c.row_at.ensures,
  length-set c.loop-a.table c.loop-a.a c.row_at.result ∙ c.loop-a.invariant.1,
)
