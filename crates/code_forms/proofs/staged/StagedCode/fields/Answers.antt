use Rattle.std.proofs.Common.{◌≤◌, subst}
use Rattle.code_forms.specs.Staged.{Staged}
use Rattle.code_forms.proofs.StagedLemmas.{few_fields}
use Rattle.code_forms.proofs.staged.StagedCode.fields.Goals as goal

pub returns-clause-few : goal.returns-clause-few
returns-clause-few c = subst (λ (s : Staged). s.fields ≤ 32) c.self.view_is (few_fields _ c.self.invariant.staged)
