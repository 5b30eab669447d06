use Rattle.std.proofs.Common.{subst, length, ◌<◌}
use Rattle.code_forms.specs.Staged.{Staged, IsGroup}
use Rattle.code_forms.proofs.staged.StagedCode.group.Goals as goal

pub returns-clause-laws : goal.returns-clause-laws
returns-clause-laws c =
    subst (λ (s : Staged). c.args.g < length s.groups → IsGroup s c.args.g) c.self.view_is (c.self.invariant.staged.groups c.args.g) c.requires
