-- those of the group so far are like this one
use Rattle.std.proofs.Common.{ℕ, ◌<◌}
use Rattle.source_rows.specs.Members.{IsOf}
use Rattle.source_rows.specs.Shards.{AreAlike}
use Rattle.source_rows.proofs.shards.all_like.Given as goal

abbrev pub invariant-loop-b : goal.invariant-loop-b
invariant-loop-b l = (k : ℕ) → k < l.b → IsOf l.of l.group k → AreAlike l.checked l.fn.a k
