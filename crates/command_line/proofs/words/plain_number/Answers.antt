use Rattle.std.proofs.Common.{◌≡◌, ◌∙◌, arith, true, sym, ap}
use Rattle.std.specs.Option.{option_and_then}
use Rattle.command_line.specs.CommandLine.{is_plain, up_to}
use Rattle.command_line.proofs.NumberLemmas.{parsed, plain_is, within}
use Rattle.command_line.proofs.words.plain_number.Goals as goal

pub returns-in-Ok-clause-number : goal.returns-in-Ok-clause-number
returns-in-Ok-clause-number c =
    let plain : is_plain c.args.text.now ≡ true = cc in
    sym (within c.args.most c.in-Ok.number (omega (arith, c.if-number-most.true)))
    ∙ ap (λ r. option_and_then (up_to c.args.most) (parsed r)) (sym c.in-Ok.is)
    ∙ plain_is c.args.most c.args.text.now c.parse.result c.parse.ensures.value.0 plain

pub returns-in_default-2-clause-number : goal.returns-in_default-2-clause-number
returns-in_default-2-clause-number c =
    let plain : is_plain c.args.text.now ≡ true = cc in
    ap (λ r. option_and_then (up_to c.args.most) (parsed r)) (sym c.in_default.is)
    ∙ plain_is c.args.most c.args.text.now c.parse.result c.parse.ensures.value.0 plain
