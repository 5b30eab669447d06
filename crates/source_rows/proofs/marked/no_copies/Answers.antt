-- one more
use Rattle.std.proofs.Common.{◌∙◌, ◌++◌, ◌∷◌, [], None}
use Rattle.std.proofs.lemmas.List.{replicate-append-replicate}
use Rattle.source_rows.proofs.marked.no_copies.Goals as goal

pub loop-preserved : goal.loop-preserved
loop-preserved c = c.in_ok-push.ensures.items ∙ (λ i. c.loop.invariant i ++ None ∷ []) ∙ replicate-append-replicate c.loop.counter 1 None
