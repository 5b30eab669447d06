use Rattle.std.proofs.Common.{◌∙◌}
use Rattle.mp5_words.specs.Domain.{Mark}
use Rattle.source_rows.specs.MarkViews.{marks_of}
use Rattle.source_rows.proofs.ChainLemmas.{walk_is}
use Rattle.source_rows.proofs.marked.walk.Goals as goal

pub returns-clause-walked : goal.returns-clause-walked
returns-clause-walked c = c.in_ok-walk_block.ensures.walked ∙ walk_is Mark (marks_of c.args.checked.now) c.args.checked.now c.body.result.now _ _ _ c.body.ensures.body c.in_ok-walked.ensures.fields c.in_ok-walked.ensures.copies
