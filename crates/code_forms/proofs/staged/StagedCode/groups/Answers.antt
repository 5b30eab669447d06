use Rattle.std.proofs.Common.{subst}
use Rattle.code_forms.specs.Staged.{HasSizes}
use Rattle.code_forms.proofs.StagedLemmas.{has_sizes}
use Rattle.code_forms.proofs.staged.StagedCode.groups.Goals as goal

pub returns-clause-sizes : goal.returns-clause-sizes
returns-clause-sizes c = subst HasSizes c.self.view_is (has_sizes _ c.self.invariant.staged)
