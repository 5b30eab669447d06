use Rattle.std.proofs.Common.{◌≤◌, length, subst}
use Rattle.code_forms.specs.Staged.{Staged}
use Rattle.code_forms.proofs.StagedLemmas.{few_arrays}
use Rattle.code_forms.proofs.staged.StagedCode.array_count.Goals as goal

pub returns-clause-few : goal.returns-clause-few
returns-clause-few c = subst (λ (s : Staged). length s.arrays ≤ 16) c.self.view_is (few_arrays _ c.self.invariant.staged)
