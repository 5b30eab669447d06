use Rattle.std.proofs.Common.{subst}
use Rattle.code_forms.specs.Staged.{Staged, IsStaged}
use Rattle.code_forms.proofs.staged.StagedCode.point.Goals as goal

pub returns-then-k-eq0-clause-laws : goal.returns-then-k-eq0-clause-laws
returns-then-k-eq0-clause-laws c = subst (λ (s : Staged). IsStaged s) c.self.view_is c.self.invariant.staged

pub returns-else-k-eq0-clause-laws : goal.returns-else-k-eq0-clause-laws
returns-else-k-eq0-clause-laws c = subst (λ (s : Staged). IsStaged s) c.self.view_is c.self.invariant.staged
