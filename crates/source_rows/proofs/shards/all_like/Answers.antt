use Rattle.std.proofs.Common.{refl, arith}
use Rattle.source_rows.proofs.MemberLemmas.{of_below}
use Rattle.source_rows.proofs.shards.all_like.Goals as goal

pub returns : goal.returns
returns c = (λ _ b is. c.loop-b.invariant b (omega (arith, of_below c.args.of.now c.args.group b is, c.told-of, c.loop-b-test.false)) is, λ _. refl)
