use Rattle.std.proofs.Common.{◌∙◌, arith}
use Rattle.domino_eval.proofs.EvalLemmas.{cells_started}
use Rattle.domino_eval.proofs.bench.started.Goals as goal

pub returns : goal.returns
returns c = c.loop-info.invariant ∙ cells_started c.args.checked.now c.arrays-info-items.result.now c.loop-info.info-index c.arrays-info-items.ensures.arrays (omega arith)
