use Rattle.std.proofs.Common.{◌/◌, ◌∙◌}
use Rattle.run_answer.proofs.CellsLemmas.{share_is}
use Rattle.run_answer.proofs.cells.share_of.Goals as goal

pub returns-clause-share : goal.returns-clause-share
returns-clause-share c =
    (λ j. c.length.ensures j / c.units.ensures j)
    ∙ share_is c.args.code.now c.args.g c.args.a c.has_array.ensures.laws c.groups.ensures.sizes c.requires.group c.requires.has
