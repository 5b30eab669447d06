use Rattle.std.proofs.Common.{◌+◌, ◌*◌, ap, arith}
use Rattle.std.proofs.lemmas.Int.Digits.{digits_value_more}
use Rattle.std.specs.Char.{digit_value}
use Rattle.std.proofs.lemmas.Str.Parse.{digits_value-take-le}
use Rattle.domino_syntax.proofs.lex.value_of.Goals as goal

pub returns-in_err-checked_mul : goal.returns-in_err-checked_mul
returns-in_err-checked_mul c =
    let i = c.loop-digit.digit-index in
    rw c.from_residual-in_err-checked_mul.ensures (omega (arith, ap (λ v. v * c.args.radix) c.loop-digit.invariant, digits_value_more c.args.radix c.args.digits.now i (omega arith), digits_value-take-le c.args.radix c.args.digits.now (i + 1) (omega arith), c.in_err-checked_mul.ensures))

pub returns-in_err-value : goal.returns-in_err-value
returns-in_err-value c =
    let i = c.loop-digit.digit-index in
    rw c.from_residual-in_err-value.ensures (omega (arith, ap (λ v. v * c.args.radix) c.loop-digit.invariant, digits_value_more c.args.radix c.args.digits.now i (omega arith), digits_value-take-le c.args.radix c.args.digits.now (i + 1) (omega arith), c.in_err-value.ensures, c.in_ok-checked_mul.ensures, c.in_ok-more.ensures.value, ap digit_value c.from.ensures))

pub loop-digit-preserved : goal.loop-digit-preserved
loop-digit-preserved c =
    let i = c.loop-digit.digit-index in
    omega (arith, ap (λ v. v * c.args.radix) c.loop-digit.invariant, digits_value_more c.args.radix c.args.digits.now i (omega arith), c.in_ok-value.ensures, c.in_ok-checked_mul.ensures, c.in_ok-more.ensures.value, ap digit_value c.from.ensures)
