use Rattle.std.proofs.Common.{sym, ◌∙◌, true≢false}
use Rattle.source_rows.proofs.MemberLemmas.{first_at, none_next}
use Rattle.source_rows.proofs.members.first_of.Goals as goal

pub returns-then-is_of : goal.returns-then-is_of
returns-then-is_of c = first_at c.args.of.now c.args.group c.args.arrays.now c.loop-array.array-index c.loop-array-test.true c.loop-array.invariant (c.is_of.ensures.0 c.if-is_of.true)

pub loop-array-preserved : goal.loop-array-preserved
loop-array-preserved c =
    none_next c.args.of.now c.args.group c.args.arrays.now c.loop-array.array-index c.loop-array-test.true c.loop-array.invariant
    (λ is. true≢false (sym (c.is_of.ensures.1 is) ∙ c.if-is_of.false))
