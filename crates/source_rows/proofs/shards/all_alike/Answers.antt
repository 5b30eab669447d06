use Rattle.std.proofs.Common.{refl, sym, ◌∙◌, true≢false, arith}
use Rattle.source_rows.proofs.MemberLemmas.{of_below}
use Rattle.source_rows.proofs.shards.all_alike.Goals as goal

pub returns-then-not-all_like : goal.returns-then-not-all_like
returns-then-not-all_like c =
    (λ told. absurd (true≢false (sym told)), λ alike. sym c.if-not-all_like.true ∙ c.all_like.ensures.1 (alike c.loop-a.a (c.is_of.ensures.0 c.if-is_of.true)))

pub returns : goal.returns
returns c = (λ _ a is. c.loop-a.invariant a (omega (arith, of_below c.args.of.now c.args.group a is, c.told-of, c.loop-a-test.false)) is, λ _. refl)
