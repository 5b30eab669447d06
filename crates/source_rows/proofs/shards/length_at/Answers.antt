use Rattle.std.proofs.Common.{ap, ◌∙◌}
use Rattle.source_rows.specs.Opened.{cells_in}
use Rattle.source_rows.proofs.PlaceLemmas.{cells_are}
use Rattle.source_rows.proofs.shards.length_at.Goals as goal

pub returns : goal.returns
returns c = c.length_in.ensures ∙ ap (λ infos. cells_in infos c.args.a) c.arrays.ensures.arrays ∙ cells_are c.args.checked.now c.args.a
