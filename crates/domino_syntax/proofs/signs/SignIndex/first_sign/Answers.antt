use Rattle.std.proofs.Common.{◌∙◌}
use Rattle.domino_syntax.proofs.SignIndexLemmas.{first_among, first_of_none}
use Rattle.domino_syntax.proofs.signs.SignIndex.first_sign.Goals as goal

pub returns-in-empty : goal.returns-in-empty
returns-in-empty c = first_of_none c.args.text.now c.in-empty.len_below

pub returns-in-len1-up : goal.returns-in-len1-up
returns-in-len1-up c = c.first_of.ensures ∙ first_among c.args.text.now c.beginning.result.now c.in-len1-up.len_at_least c.beginning.ensures
