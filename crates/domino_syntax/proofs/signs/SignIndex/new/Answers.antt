use Rattle.std.proofs.Common.{◌≡◌, ◌∙◌, ap, subst, map, arith}
use Rattle.std.proofs.lemmas.List.{map_push}
use Rattle.std.specs.List.{range_with_len}
use Rattle.domino_syntax.specs.SignIndex.{signs_with, signs_by_first}
use Rattle.domino_syntax.proofs.SignIndexLemmas.{more_rows}
use Rattle.domino_syntax.proofs.signs.SignIndex.new.Goals as goal

pub loop-first-preserved : goal.loop-first-preserved
loop-first-preserved c =
    ap (map (λ signs. signs.items)) c.in_ok-push.ensures.items
    ∙ (map_push (λ signs. signs.items) c.loop-first.by_first.items c.in_ok-signs_with.field-0
    ∙ more_rows c.loop-first.first (map (λ signs. signs.items) c.loop-first.by_first.items) c.in_ok-signs_with.field-0.items c.loop-first.invariant c.in_ok-signs_with.ensures)

pub invariant_of-result : goal.invariant_of-result
unfolding signs_by_first
invariant_of-result c =
    let all : c.loop-first.first ≡ 256 = omega (arith, c.loop-first-test.false, c.loop-first.auto.first-end) in
    subst (λ n. map (λ signs. signs.items) c.loop-first.by_first.items ≡ map signs_with (range_with_len 0 n)) all c.loop-first.invariant
