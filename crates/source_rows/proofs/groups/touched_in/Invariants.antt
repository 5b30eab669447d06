-- the marks so far
use Rattle.std.proofs.Common.{◌≡◌, ℕ, ◌<◌, true, None, length}
use Rattle.std.specs.Prelude.{◌↔◌}
use Rattle.std.specs.List.{slice_index_or}
use Rattle.dependence.specs.Tables.{has}
use Rattle.domino_check.specs.SourceGroups.{HasCopy}
use Rattle.source_rows.proofs.groups.touched_in.Given as goal

abbrev pub invariant-loop-a : goal.invariant-loop-a
invariant-loop-a l = ((k : ℕ) → k < l.a → (has l.row k ≡ true) ↔ HasCopy (slice_index_or l.copies k None)) × (length l.row ≡ 16)
