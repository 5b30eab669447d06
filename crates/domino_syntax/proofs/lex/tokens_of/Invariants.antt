-- the text is pieces up to what is left
use Rattle.std.proofs.Common.{◌≤◌, length}
use Rattle.domino_syntax.specs.Pieces.{IsCut}
use Rattle.domino_syntax.proofs.lex.tokens_of.Given as goal

abbrev pub invariant-loop-tokens : goal.invariant-loop-tokens
invariant-loop-tokens l = IsCut l.fn.text l.tokens.items l.rest × (length l.rest ≤ length l.fn.text)

abbrev pub decreases-loop-tokens : goal.decreases-loop-tokens
decreases-loop-tokens l = length l.rest
