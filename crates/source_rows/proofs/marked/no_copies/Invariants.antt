-- so many so far
use Rattle.std.proofs.Common.{◌≡◌, None, replicate}
use Rattle.source_rows.proofs.marked.no_copies.Given as goal

abbrev pub invariant-loop : goal.invariant-loop
invariant-loop l = l.copies.items ≡ replicate l.counter None
