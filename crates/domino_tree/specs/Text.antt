-- The canonical text of a program: its canonical tokens with a space between. Each item, the struct and the
-- function are a line of their own.
use Rattle.std.specs.Prelude.{ℕ, List, [], ◌∷◌, ◌++◌, flat_map, codes, decimal}
use Rattle.std.specs.List.{fold}
use Rattle.std.specs.Int.{w32, cast_unsigned}
use Rattle.domino_tree.specs.declared.token.Token.{Token}
use Rattle.domino_tree.specs.declared.token.Token.TheVariants as token
use Rattle.domino_tree.specs.declared.token.Keyword.{Keyword}
use Rattle.domino_tree.specs.declared.token.Keyword.TheVariants as keyword
use Rattle.domino_tree.specs.Operators.{sign_text}
use Rattle.domino_tree.specs.declared.program.Item.{Item}
use Rattle.domino_tree.specs.declared.program.Program.{Program}
use Rattle.domino_tree.specs.Grammar.{item_tokens, packet_tokens, function_tokens, program_tokens}

-- the letters of a reserved name
abbrev pub keyword_text : Keyword → List ℕ
keyword_text keyword.Struct = codes "struct"
keyword_text keyword.Int = codes "int"
keyword_text keyword.Void = codes "void"
keyword_text keyword.If = codes "if"
keyword_text keyword.Else = codes "else"

-- the bytes of a token; a number is an unsigned decimal
abbrev pub token_text : Token → List ℕ
token_text (token.Name w) = w
token_text (token.Keyword k) = keyword_text k
token_text token.Define = codes "#define"
token_text (token.Number n) = decimal (cast_unsigned w32 n)
token_text (token.Sign s) = sign_text s

-- a space and a token, for each of them
unfoldable pub spaced : List Token → List ℕ
spaced [] = []
spaced (t ∷ ts) = 32 ∷ (token_text t ++ spaced ts)

-- a text with a space and a token at its end
abbrev pub added : List ℕ → Token → List ℕ
added text t = text ++ (32 ∷ token_text t)

-- a text with a space and a token at its end, for each of them
abbrev pub written : List ℕ → List Token → List ℕ
written text tokens = fold added text tokens

-- tokens with a space between, and a newline
abbrev pub line : List Token → List ℕ
line [] = 10 ∷ []
line (t ∷ ts) = token_text t ++ (spaced ts ++ 10 ∷ [])

-- a text with such a line at its end
abbrev pub written_line : List ℕ → List Token → List ℕ
written_line text [] = text ++ (10 ∷ [])
written_line text (t ∷ ts) = written (text ++ token_text t) ts ++ (10 ∷ [])

-- the line of an item
abbrev pub item_line : Item → List ℕ
item_line i = line (item_tokens i)

-- the canonical tokens
abbrev pub canonical_tokens : Program → List Token
canonical_tokens p = program_tokens p.before p.packet p.after p.function

-- the canonical text
abbrev pub text_of : Program → List ℕ
text_of p = flat_map item_line p.before ++ (line (packet_tokens p.packet) ++ (flat_map item_line p.after ++ line (function_tokens p.function)))
