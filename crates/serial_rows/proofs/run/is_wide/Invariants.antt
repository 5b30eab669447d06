use Rattle.std.proofs.Common.{◌≡◌, ℕ, ℤ, ◌<◌, List, length, slice_index_or}
use Rattle.serial_rows.proofs.run.is_wide.Given as goal

-- the first headers have so many words
abbrev pub invariant-loop-t : goal.invariant-loop-t
invariant-loop-t l = (k : ℕ) (d : List ℤ) → k < l.t → length (slice_index_or l.capture k d) ≡ l.fields
