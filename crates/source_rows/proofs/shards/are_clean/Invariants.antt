-- the arrays of the group so far are clean
use Rattle.std.proofs.Common.{◌≡◌, ℕ, ◌<◌, None, []}
use Rattle.std.specs.List.{slice_index_or}
use Rattle.domino_check.specs.SourceGroups.{index_sources}
use Rattle.source_rows.specs.Members.{IsOf}
use Rattle.source_rows.proofs.shards.are_clean.Given as goal

abbrev pub invariant-loop-a : goal.invariant-loop-a
invariant-loop-a l = (k : ℕ) → k < l.a → IsOf l.of l.group k → index_sources (slice_index_or l.copies k None) ≡ []
