-- The quotient is at most 2^31 from zero, so its bits are those of the wrapped quotient.
use Rattle.std.proofs.Common.{w32, int_div, ◌∙◌}
use Rattle.std.proofs.lemmas.Int.{to_z-of_z}
use Rattle.mp5_words.proofs.WordLemmas.{passed, quotient_bits, quotient_is}
use Rattle.mp5_words.proofs.op.quotient_of.Goals as goal

pub returns-else-b-eq0 : goal.returns-else-b-eq0
returns-else-b-eq0 c =
    let bits = rw (to_z-of_z w32 c.args.a c.ranges.a, to_z-of_z w32 c.args.b c.ranges.b) at c.wrapping_div.ensures in
    let word = passed c.wrapping_div.result (int_div c.args.a c.args.b) (bits ∙ quotient_bits c.args.a c.args.b c.ranges.a) in
    quotient_is c.args.a c.args.b _ c.if-b-eq0.false word
