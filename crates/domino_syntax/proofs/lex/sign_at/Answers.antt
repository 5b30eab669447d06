use Rattle.std.proofs.Common.{◌≤◌, length, IfSome, ap, sym, subst, arith}
use Rattle.domino_tree.specs.Operators.{sign_text}
use Rattle.domino_syntax.proofs.SignLemmas.{some_text, first_fits}
use Rattle.domino_syntax.proofs.lex.sign_at.Goals as goal

pub returns-in-Some-clause-within : goal.returns-in-Some-clause-within
returns-in-Some-clause-within c =
    let text = c.args.text.now in
    let fits : length (sign_text c.in-Some.sign) ≤ length text = subst (λ o. IfSome o (λ s. length (sign_text s) ≤ length text)) (sym c.in-Some.ensures) (first_fits text) in
    (omega (arith, some_text c.in-Some.sign, ap (λ l. length l) c.text.ensures), omega (arith, fits, ap (λ l. length l) c.text.ensures))
