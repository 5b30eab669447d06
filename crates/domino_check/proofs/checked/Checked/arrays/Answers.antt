use Rattle.std.proofs.Common.{subst}
use Rattle.domino_check.specs.Accepted.{Keeps}
use Rattle.domino_check.proofs.checked.Checked.arrays.Goals as goal

pub returns-clause-keeps : goal.returns-clause-keeps
returns-clause-keeps c = subst Keeps c.self.view_is c.self.invariant.keeps
