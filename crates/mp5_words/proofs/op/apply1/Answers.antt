-- What is left of the bits of the negation is the exact negation, wrapped.
use Rattle.std.proofs.Common.{w32, neg_ℤ, ◌∙◌}
use Rattle.std.proofs.lemmas.Int.{to_z-of_z, wrapping_neg_is}
use Rattle.mp5_words.proofs.WordLemmas.{passed}
use Rattle.mp5_words.proofs.op.apply1.Goals as goal

pub returns-in-Neg : goal.returns-in-Neg
returns-in-Neg c =
    let bits = rw (to_z-of_z w32 c.args.a c.ranges.a) at c.wrapping_neg.ensures in
    rw c.in-Neg.is (passed c.wrapping_neg.result (neg_ℤ c.args.a) (bits ∙ wrapping_neg_is w32 c.args.a c.ranges.a))
