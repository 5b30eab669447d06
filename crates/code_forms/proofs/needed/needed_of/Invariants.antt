-- those needed of the steps from this one on are found
use Rattle.std.proofs.Common.{drop, reverse}
use Rattle.code_forms.specs.Needed.{Follows}
use Rattle.code_forms.proofs.needed.needed_of.Given as goal

abbrev pub invariant-loop-k : goal.invariant-loop-k
invariant-loop-k l = Follows l.fn.slots l.live (reverse l.needed) (drop l.k l.header)
