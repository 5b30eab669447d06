use Rattle.std.proofs.Common.{◌∙◌}
use Rattle.mp5_words.specs.Domain.{sources}
use Rattle.source_rows.specs.Views.{Sources}
use Rattle.source_rows.proofs.ChainLemmas.{walk_is}
use Rattle.source_rows.proofs.sources.walk.Goals as goal

pub returns : goal.returns
returns c = c.in_ok-walk_block.ensures.walked ∙ walk_is Sources sources c.args.checked.now c.body.result.now _ _ _ c.body.ensures.body c.in_ok-walked.ensures.fields c.in_ok-walked.ensures.copies
