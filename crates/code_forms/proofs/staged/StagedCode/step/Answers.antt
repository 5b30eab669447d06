use Rattle.std.proofs.Common.{FitsSigned, w32, rules, ap, ◌∙◌, slice_set}
use Rattle.std.proofs.lemmas.Int.{to_z-of_z}
use Rattle.code_forms.proofs.RunningLemmas.{lengths_fit, step_done}
use Rattle.code_forms.proofs.staged.StagedCode.step.Goals as goal

pub value_of-word-requires : goal.value_of-word-requires
value_of-word-requires c = lengths_fit c.args.self.now c.args.spots.now c.requires.staged c.requires.spots

pub returns : goal.returns
returns c =
    let word_fits : FitsSigned w32 c.value_of-word.result = search rules in
    let written = c.put.ensures ∙ ap (slice_set c.args.env.now _) (to_z-of_z w32 c.value_of-word.result word_fits) in
    step_done c.args.self.now c.args.spots.now c.args.steps.now c.args.p _ _ _ _ _ c.requires.staged c.requires.spots c.requires.steps c.requires.place c.value_of-word.ensures written
