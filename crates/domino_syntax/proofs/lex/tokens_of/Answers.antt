use Rattle.std.proofs.Common.{◌≡◌, ◌∙◌, sym, subst, length-drop, arith}
use Rattle.std.proofs.lemmas.List.{take_rest}
use Rattle.domino_syntax.specs.declared.lex.Piece.TheVariants as piece_of
use Rattle.domino_syntax.specs.Pieces.{IsCut}
use Rattle.domino_syntax.specs.Pieces.IsCut.{none}
use Rattle.domino_syntax.specs.Tokens.{piece}
use Rattle.domino_syntax.proofs.PieceLemmas.{at_end, skipped, token_taken, bad_at}
use Rattle.domino_syntax.proofs.lex.tokens_of.Goals as goal

pub loop-tokens-init : goal.loop-tokens-init
loop-tokens-init c = (subst (λ ts. IsCut c.args.text.now ts c.args.text.now) (sym c.new-tokens.ensures.items) (none c.args.text.now), omega arith)

pub returns-in-End : goal.returns-in-End
returns-in-End c =
    let z = c.loop-tokens.rest.now in
    let last : piece z ≡ piece_of.End = sym (sym c.in-End.is ∙ c.in_ok-piece_at.ensures.value) in
    subst (IsCut c.args.text.now c.loop-tokens.tokens.items) (at_end z last) c.loop-tokens.invariant.0

pub loop-tokens-preserved-in-Skip : goal.loop-tokens-preserved-in-Skip
loop-tokens-preserved-in-Skip c =
    let z = c.loop-tokens.rest.now in
    let first : piece z ≡ piece_of.Skip c.in-Skip.len = sym (sym c.in-Skip.is ∙ c.in_ok-piece_at.ensures.value) in
    rw (take_rest z c.in-Skip.len) (skipped c.args.text.now z c.loop-tokens.tokens.items c.in-Skip.len c.loop-tokens.invariant.0 first, omega (arith, length-drop c.in-Skip.len z, c.loop-tokens.invariant.1))

pub loop-tokens-preserved : goal.loop-tokens-preserved
loop-tokens-preserved c =
    let z = c.loop-tokens.rest.now in
    let first : piece z ≡ piece_of.Token c.in-Token.token c.in-Token.len = sym (sym c.in-Token.is ∙ c.in_ok-piece_at.ensures.value) in
    rw (take_rest z c.in-Token.len, c.in_ok-push-in-Token.ensures.items) (token_taken c.args.text.now z c.loop-tokens.tokens.items c.in-Token.token c.in-Token.len c.loop-tokens.invariant.0 first, omega (arith, length-drop c.in-Token.len z, c.loop-tokens.invariant.1))

pub returns-in-Bad : goal.returns-in-Bad
returns-in-Bad c =
    let z = c.loop-tokens.rest.now in
    bad_at c.args.text.now z c.loop-tokens.tokens.items c.loop-tokens.invariant.0 (sym (sym c.in-Bad.is ∙ c.in_ok-piece_at.ensures.value))
