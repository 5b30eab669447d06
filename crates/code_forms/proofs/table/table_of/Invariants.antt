use Rattle.std.proofs.Common.{◌≡◌, ◌<◌, ℕ, length}
use Rattle.code_forms.specs.Staged.{in_parts}
use Rattle.code_forms.specs.Spots.{spot_at, spot_of}
use Rattle.code_forms.proofs.table.table_of.Given as goal

abbrev pub invariant-loop-array : goal.invariant-loop-array
invariant-loop-array l = (length l.spots ≡ l.array) × ((a : ℕ) → a < l.array → spot_at l.spots a ≡ spot_of (in_parts l.code l.parts) a)
