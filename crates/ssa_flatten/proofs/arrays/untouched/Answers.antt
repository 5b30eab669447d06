-- one array more that isn't touched
use Rattle.std.proofs.Common.{◌∙◌, ◌++◌, ◌∷◌, []}
use Rattle.std.proofs.lemmas.List.{replicate-append-replicate}
use Rattle.ssa_flatten.specs.Views.{no_array}
use Rattle.ssa_flatten.proofs.arrays.untouched.Goals as goal

pub loop-preserved : goal.loop-preserved
loop-preserved c =
    c.in_ok-push.ensures.items
    ∙ (λ i. c.loop.invariant i ++ record { touched = c.new.ensures i; copies = c.new-in-loop.ensures i } ∷ [])
    ∙ replicate-append-replicate c.loop.counter 1 no_array
