use Rattle.std.proofs.Common.{◌≡◌, ◌+◌, length}
use Rattle.domino_syntax.specs.Tokens.{further, closing}
use Rattle.domino_syntax.proofs.lex.closing.Given as goal

abbrev pub invariant-loop-rest : goal.invariant-loop-rest
invariant-loop-rest l = (further l.at (closing l.rest) ≡ closing l.text) × (l.at + length l.rest ≡ length l.text)

abbrev pub decreases-loop-rest : goal.decreases-loop-rest
decreases-loop-rest l = length l.rest
