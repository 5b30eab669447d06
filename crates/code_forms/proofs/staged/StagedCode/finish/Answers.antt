use Rattle.std.proofs.Common.{◌≡◌, ◌∙◌, ap, map, subst}
use Rattle.code_forms.specs.Staged.{Staged, operand_word, IsStaged}
use Rattle.code_forms.proofs.PlaceLemmas.{finishes}
use Rattle.code_forms.proofs.staged.StagedCode.finish.Goals as goal

pub returns : goal.returns
returns c =
    let last : c.as_slice.result.now ≡ c.args.self.now.last = c.as_slice.ensures ∙ ap (λ (s : Staged). s.last) c.self.view_is in
    finishes c.args.self.now c.args.env.now c.write_last.new.fields (subst IsStaged c.self.view_is c.self.invariant.staged)
    (c.write_last.ensures ∙ ap (map (operand_word c.args.env.now)) last)
