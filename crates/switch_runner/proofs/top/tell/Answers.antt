use Rattle.switch_runner.proofs.WritingLemmas.{tells}
use Rattle.switch_runner.proofs.top.tell.Goals as goal

pub returns : goal.returns
returns g c = tells c.args.status.now c.write_line.result _ _ c.write_line.ensures
