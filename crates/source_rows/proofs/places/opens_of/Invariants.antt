-- the marks so far
use Rattle.std.proofs.Common.{◌≡◌, ℕ, ◌<◌, None, length}
use Rattle.std.specs.List.{slice_index_or}
use Rattle.dependence.specs.Tables.{has}
use Rattle.domino_check.specs.Place.{is_open_at}
use Rattle.source_rows.proofs.places.opens_of.Given as goal

abbrev pub invariant-loop-a : goal.invariant-loop-a
invariant-loop-a l = ((k : ℕ) → k < l.a → has l.row k ≡ is_open_at (slice_index_or l.copies k None)) × (length l.row ≡ 16)
