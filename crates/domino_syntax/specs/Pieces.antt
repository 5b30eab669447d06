-- The tokens of a text as a relation: the text is pieces, one after another from its front on, each as long as it
-- can be where it stands.
use Rattle.std.specs.Prelude.{◌≡◌, ℕ, List, [], ◌∷◌, drop}
use Rattle.domino_tree.specs.declared.token.Token.{Token}
use Rattle.domino_syntax.specs.declared.lex.Piece.TheVariants as piece_of
use Rattle.domino_syntax.specs.Tokens.{piece}

-- pieces with these tokens, and then the rest: none yet; or white space or a comment, and pieces; or a token, and
-- pieces
pub data IsCut : List ℕ → List Token → List ℕ → Type 0 where
  none : (rest : List ℕ) → IsCut rest [] rest
  blank : (text rest : List ℕ) (n : ℕ) (ts : List Token) → piece text ≡ piece_of.Skip n → IsCut (drop n text) ts rest → IsCut text ts rest
  more : (text rest : List ℕ) (t : Token) (n : ℕ) (ts : List Token) → piece text ≡ piece_of.Token t n → IsCut (drop n text) ts rest → IsCut text (t ∷ ts) rest

-- the text is pieces with these tokens to its end
abbrev pub ArePieces : List ℕ → List Token → Type 0
ArePieces text tokens = IsCut text tokens []

-- up to byte `at` the text is pieces, and there none begins
pub record IsBadAt (text : List ℕ) (at : ℕ) : Type 0 where
  pub tokens : List Token
  pub cut : IsCut text tokens (drop at text)
  pub bad : piece (drop at text) ≡ piece_of.Bad
