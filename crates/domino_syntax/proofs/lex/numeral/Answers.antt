use Rattle.std.proofs.Common.{◌<◌, arith}
use Rattle.std.specs.Str.Parse.{digits_value}
use Rattle.domino_syntax.proofs.LexLemmas.{bounded_of}
use Rattle.domino_syntax.proofs.lex.numeral.Goals as goal

pub returns-in-Some : goal.returns-in-Some
returns-in-Some c =
    let fits : c.in-Some.value < 4294967296 = omega arith in
    rw c.cast_signed.ensures (bounded_of (digits_value c.args.radix c.args.digits.now) c.in-Some.value fits c.in-Some.ensures)
