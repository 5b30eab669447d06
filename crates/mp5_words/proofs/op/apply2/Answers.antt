-- What is left of the sum, the difference or the product of the bits is the exact result, wrapped.
use Rattle.std.proofs.Common.{w32, ◌^◌, pos, ◌*ℤ◌, ap, ◌∙◌}
use Rattle.std.specs.Int.{int_wrap}
use Rattle.std.proofs.lemmas.Int.{to_z-of_z, wrapping_add_is, wrapping_sub_is}
use Rattle.std.proofs.Math.Pow.{pow-lt}
use Rattle.std.proofs.Math.Facts.{Fits-of_z, Fits-lt-pow}
use Rattle.mp5_words.proofs.WordLemmas.{shifted}
use Rattle.mp5_words.proofs.op.apply2.Goals as goal

pub returns-in-Add : goal.returns-in-Add
returns-in-Add c = rw c.in-Add.is (wrapping_add_is w32 c.args.a c.args.b c.ranges.a c.ranges.b)

pub returns-in-Sub : goal.returns-in-Sub
returns-in-Sub c = rw c.in-Sub.is (wrapping_sub_is w32 c.args.a c.args.b c.ranges.a c.ranges.b)

pub returns-in-Shl : goal.returns-in-Shl
returns-in-Shl c =
    let by = rw (to_z-of_z w32 c.args.b c.ranges.b) at c.shift_of.ensures.value in
    let product = shifted c.args.a (2 ^ c.shift_of.result) c.ranges.a (Fits-lt-pow (Fits-of_z c.ranges.a)) (pow-lt c.shift_of.ensures.bound) in
    rw c.in-Shl.is (product ∙ ap (λ k. int_wrap w32 (c.args.a *ℤ pos (2 ^ k))) by)
