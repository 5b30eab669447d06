use Rattle.std.proofs.Common.{◌≡◌, None, replicate, ap, ◌∙◌, arith}
use Rattle.domino_check.proofs.IndexLemmas.{no_index}
use Rattle.domino_check.proofs.indexes.no_indexes.Goals as goal

pub returns : goal.returns
returns c =
    let all : c.loop.counter ≡ c.args.count = omega arith in
    no_index c.args.count c.loop.table (c.loop.invariant ∙ ap (λ n. replicate n None) all)
