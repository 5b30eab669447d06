use Rattle.code_forms.proofs.PartLemmas.{skip_leads}
use Rattle.code_forms.proofs.staged.StagedCode.skip.Goals as goal

pub returns : goal.returns
returns c = skip_leads c.args.self.now c.args.g c.args.env.now c.run_part.new.env c.run_part.ensures.laws c.requires c.run_part.ensures.runs
