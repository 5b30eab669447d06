use Rattle.std.proofs.Common.{subst}
use Rattle.domino_check.specs.Refused.{Passes}
use Rattle.domino_check.specs.Accepted.{Keeps}
use Rattle.domino_check.proofs.checked.Checked.program.Goals as goal

pub returns-clause-passes : goal.returns-clause-passes
returns-clause-passes c = subst Passes c.self.view_is c.self.invariant.passes

pub returns-clause-keeps : goal.returns-clause-keeps
returns-clause-keeps c = subst Keeps c.self.view_is c.self.invariant.keeps
