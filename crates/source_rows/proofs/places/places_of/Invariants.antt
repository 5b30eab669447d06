-- the places so far
use Rattle.std.proofs.Common.{◌≡◌, ℕ, ◌<◌, None, length, slice_index}
use Rattle.std.specs.List.{slice_index_or}
use Rattle.domino_check.specs.Place.{marked_place}
use Rattle.source_rows.specs.Opened.{cells_in}
use Rattle.source_rows.proofs.places.places_of.Given as goal

abbrev pub invariant-loop-a : goal.invariant-loop-a
invariant-loop-a l = ((k : ℕ) → k < l.a → slice_index l.row k ≡ marked_place (cells_in l.infos k) (slice_index_or l.copies k None)) × (length l.row ≡ 16)
