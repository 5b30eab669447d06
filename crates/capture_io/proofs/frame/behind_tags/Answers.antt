use Rattle.std.proofs.Common.{◌≡◌, ◌<◌, ◌≤◌, ◌∙◌, true, false, ℕ, length, ap, sym, arith}
use Rattle.std.proofs.lemmas.List.{take_rest}
use Rattle.capture_io.specs.Header.{is_tag, number_at}
use Rattle.capture_io.proofs.Tags.{behind_tag, no_tag, too_short}
use Rattle.capture_io.proofs.frame.behind_tags.Goals as goal

pub loop-rest-preserved : goal.loop-rest-preserved
loop-rest-preserved c =
    let rest = c.loop-rest.rest.now in
    let long : 4 ≤ length rest = omega (arith, c.loop-rest-test.true) in
    let tag : is_tag (number_at 2 0 rest) ≡ true = ap (λ (k : ℕ). is_tag k) (sym c.number16_at.ensures) ∙ (sym c.is_tag.ensures ∙ c.if-is_tag.true) in
    rw (take_rest rest 4) (sym (behind_tag rest long tag) ∙ c.loop-rest.invariant)

pub returns-else-is_tag : goal.returns-else-is_tag
returns-else-is_tag c =
    let none : is_tag (number_at 2 0 c.loop-rest.rest.now) ≡ false = ap (λ (k : ℕ). is_tag k) (sym c.number16_at.ensures) ∙ (sym c.is_tag.ensures ∙ c.if-is_tag.false) in
    sym (no_tag c.loop-rest.rest.now none) ∙ c.loop-rest.invariant

pub returns-after-loop-rest : goal.returns-after-loop-rest
returns-after-loop-rest c =
    let short : length c.loop-rest.rest.now < 4 = omega (arith, c.loop-rest-test.false) in
    sym (too_short c.loop-rest.rest.now short) ∙ c.loop-rest.invariant
