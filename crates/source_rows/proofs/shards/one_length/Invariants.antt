-- none so far is of the group
use Rattle.std.proofs.Common.{ℕ, ◌<◌}
use Rattle.source_rows.specs.Members.{IsOf}
use Rattle.source_rows.proofs.shards.one_length.Given as goal

abbrev pub invariant-loop-a : goal.invariant-loop-a
invariant-loop-a l = (k : ℕ) → k < l.a → ¬ IsOf l.of l.group k
