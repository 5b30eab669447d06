-- nothing is amiss at the uses so far
use Rattle.std.proofs.Common.{take}
use Rattle.domino_names.specs.First.{NoFault}
use Rattle.domino_names.specs.Checks.{UnknownAt}
use Rattle.domino_names.specs.Symbols.{kinds_at}
use Rattle.domino_names.proofs.name_checks.check_known.Given as goal

abbrev pub invariant-loop-used : goal.invariant-loop-used
invariant-loop-used l = NoFault (UnknownAt (kinds_at l.symbols)) (take l.used-index l.uses)
