-- the rows so far
use Rattle.std.proofs.Common.{◌≡◌, ℕ, ◌<◌, true, None, length}
use Rattle.std.specs.Prelude.{◌↔◌}
use Rattle.std.specs.List.{slice_index_or}
use Rattle.dependence.specs.Tables.{at}
use Rattle.domino_check.specs.SourceGroups.{StandsBehind}
use Rattle.source_rows.proofs.table.table_of.Given as goal

abbrev pub invariant-loop-a : goal.invariant-loop-a
invariant-loop-a l = ((k b : ℕ) → k < l.a → b < 16 → (at l.table k b ≡ true) ↔ StandsBehind b (slice_index_or l.copies k None)) × (length l.table ≡ 16)
