-- the last marks as a number
use Rattle.std.proofs.Common.{◌≡◌, ◌-◌, length, drop}
use Rattle.mp5_words.specs.Cells.{bits}
use Rattle.domino_eval.specs.Places.{marks}
use Rattle.domino_eval.proofs.bench.set_of.Given as goal

abbrev pub invariant-loop-k : goal.invariant-loop-k
invariant-loop-k l = l.set ≡ bits (drop (length (marks l.places) - l.k) (marks l.places))
