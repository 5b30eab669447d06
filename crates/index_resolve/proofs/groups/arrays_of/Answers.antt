-- one bit more
use Rattle.std.proofs.Common.{◌≡◌, Bool, ◌⊎◌, inl, inr, ℕ, ◌%◌, ◌<◌, List, ◌∷◌, [], ◌++◌, length, ◌∙◌, arith}
use Rattle.index_resolve.specs.Groups.{marked}
use Rattle.index_resolve.proofs.SetLemmas.{set_more}
use Rattle.index_resolve.proofs.groups.arrays_of.Goals as goal
use Rattle.index_resolve.proofs.groups.arrays_of.Goals.{then-rest-eq1+in_ok-push, else-rest-eq1}

below : (marks : List Bool) (k : ℕ) → length marks ≡ 16 → k < 16 → k < length marks
below marks k long less = omega (arith, long, less)

pub loop-array-preserved : goal.loop-array-preserved
loop-array-preserved c = λ marks long is.
    let old = c.loop-array.invariant marks long is in
    let k = c.loop-array.array in
    let rest = c.loop-array.rest in
    let arrays = c.loop-array.arrays.items in
    let new : List ℕ = c.if-rest-eq1.arrays.items in
    let step : ((rest % 2 ≡ 1) × (new ≡ arrays ++ k ∷ [])) ⊎ ((rest % 2 ≡ 1 → ⊥) × (new ≡ arrays)) = elim c.if-rest-eq1.branch [
      | then-rest-eq1+in_ok-push w ↦ inl (w.if-rest-eq1.true, (λ j. (w.arrays-is j).items) ∙ w.in_ok-push.ensures.items)
      | else-rest-eq1 w ↦ inr (w.if-rest-eq1.false, (λ j. (w.arrays-is j).items))
    ] in
    set_more marks k rest arrays (marked 0 marks) new (below marks k long c.loop-array-test.true) old.0 old.1 step
