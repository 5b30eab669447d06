use Rattle.std.proofs.Common.{◌≡◌, ◌%◌, ◌^◌, ap, sym, ◌∙◌, arith, rules}
use Rattle.std.specs.Prelude.{FitsSigned}
use Rattle.std.specs.Int.{int_wrap, cast_signed, w32}
use Rattle.std.proofs.lemmas.Int.{to_z-of_z}
use Rattle.capture_io.proofs.source.as_word.Goals as goal

pub returns : goal.returns
unfolding int_wrap
returns c =
    let small : c.args.number % 2 ^ 32 ≡ c.args.number = omega arith in
    let fits : FitsSigned w32 c.cast_signed.result = search rules in
    to_z-of_z w32 c.cast_signed.result fits ∙ (c.cast_signed.ensures ∙ ap (cast_signed w32) (sym small))
