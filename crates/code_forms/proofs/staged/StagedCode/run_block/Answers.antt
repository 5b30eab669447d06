use Rattle.code_forms.proofs.PartLemmas.{block_leads}
use Rattle.code_forms.proofs.staged.StagedCode.run_block.Goals as goal

pub returns : goal.returns
returns c = block_leads c.args.self.now c.args.b c.args.env.now c.run_part.new.env c.run_part.ensures.laws c.requires c.run_part.ensures.runs
