use Rattle.switch_runner.proofs.WritingLemmas.{writes_text}
use Rattle.switch_runner.proofs.line.write_text.Goals as goal

pub returns : goal.returns
returns g c = writes_text c.write_all.result _ _ _ c.write_all.ensures.ok c.write_all.ensures.err
