-- no array has an index
use Rattle.std.proofs.Common.{◌≡◌, None, replicate}
use Rattle.domino_check.proofs.indexes.no_indexes.Given as goal

abbrev pub invariant-loop : goal.invariant-loop
invariant-loop l = l.table ≡ replicate l.counter None
