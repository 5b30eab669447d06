use Rattle.std.proofs.Common.{◌≡◌, length}
use Rattle.dependence.specs.Numbering.{Numbered}
use Rattle.dependence.proofs.classes.numbers_of.Given as goal

abbrev pub invariant-loop-key : goal.invariant-loop-key
invariant-loop-key l = record {
  numbered : Numbered l.keys l.numbers.items l.numbering;
  long : length l.numbers.items ≡ l.key-index;
}
