-- those of the group so far are alike
use Rattle.std.proofs.Common.{ℕ, ◌<◌}
use Rattle.source_rows.specs.Members.{IsOf}
use Rattle.source_rows.specs.Shards.{AllLike}
use Rattle.source_rows.proofs.shards.all_alike.Given as goal

abbrev pub invariant-loop-a : goal.invariant-loop-a
invariant-loop-a l = (k : ℕ) → k < l.a → IsOf l.of l.group k → AllLike l.checked l.of l.group k
