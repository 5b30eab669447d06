-- The tokens of a text. A text is cut into pieces from its front on: white space, comments and tokens, each
-- as long as possible. A text has one list of tokens, or one first place where no piece begins.
use Rattle.std.specs.Prelude.{◌≤◌, ℕ, ◌+◌, Bool, true, false, not, ◌&&◌, ◌||◌, if◌then◌else◌, nat_eq, nat_le, List, [], ◌∷◌, length, take, drop, codes, pos, Option, Some, None}
use Rattle.std.specs.List.{find, list_all, prefix_len, starts_with}
use Rattle.std.specs.Str.{bytes_eq}
use Rattle.std.specs.Str.Parse.{digits_value}
use Rattle.std.specs.Char.{is_digit, is_ascii_digit}
use Rattle.mp5_words.specs.Words.{word}
use Rattle.domino_tree.specs.declared.token.Token.{Token}
use Rattle.domino_tree.specs.declared.token.Token.TheVariants as token
use Rattle.domino_tree.specs.declared.token.Keyword.TheVariants as keyword
use Rattle.domino_tree.specs.declared.token.Sign.{Sign}
use Rattle.domino_tree.specs.Operators.{sign_text, signs}
use Rattle.domino_tree.specs.Grammar.{is_word_byte, is_name}
use Rattle.domino_syntax.specs.declared.lex.Piece.{Piece}
use Rattle.domino_syntax.specs.declared.lex.Piece.TheVariants as piece_of

-- ---- numbers

-- digits of a radix alone
abbrev pub are_digits : ℕ → List ℕ → Bool
are_digits radix bs = list_all (λ b. is_digit b radix) bs

-- 0, or decimal digits that don't begin with 0
abbrev pub is_decimal : List ℕ → Bool
is_decimal [] = false
is_decimal (b ∷ bs) = are_digits 10 (b ∷ bs) && ((nat_eq b 48 && nat_eq (length bs) 0) || nat_le 49 b)

-- `0x`, and one to eight hexadecimal digits, with letters of either case
abbrev pub is_hexadecimal : List ℕ → Bool
is_hexadecimal [] = false
is_hexadecimal (a ∷ []) = false
is_hexadecimal (a ∷ b ∷ bs) = (nat_eq a 48 && nat_eq b 120) && ((nat_le 1 (length bs) && nat_le (length bs) 8) && are_digits 16 bs)

-- a number up to 4,294,967,295 is the word with its bits: 4,294,967,295 is -1
unfoldable pub bounded : ℕ → Option Token
bounded n = if nat_le n 4294967295 then Some (token.Number (word (pos n))) else None

-- the number that a whole word is
abbrev pub number : List ℕ → Option Token
number w = if is_decimal w then bounded (digits_value 10 w) else (if is_hexadecimal w then bounded (digits_value 16 (drop 2 w)) else None)

-- ---- words

-- a reserved name, or else a name
unfoldable pub name : List ℕ → Token
name w =
    if bytes_eq w (codes "struct") then token.Keyword keyword.Struct else (
    if bytes_eq w (codes "int") then token.Keyword keyword.Int else (
    if bytes_eq w (codes "void") then token.Keyword keyword.Void else (
    if bytes_eq w (codes "if") then token.Keyword keyword.If else (
    if bytes_eq w (codes "else") then token.Keyword keyword.Else else token.Name w))))

-- the token that a whole word is: a number where it begins with a digit, else a name
abbrev pub word_token : List ℕ → Option Token
word_token [] = None
word_token (b ∷ bs) = if is_ascii_digit b then number (b ∷ bs) else Some (name (b ∷ bs))

-- letters, digits and `_` at the front, as many as there are
abbrev pub word_at : List ℕ → List ℕ
word_at text = take (prefix_len is_word_byte text) text

-- a token of so many bytes, where there is one
abbrev pub piece_from : ℕ → Option Token → Piece
piece_from n None = piece_of.Bad
piece_from n (Some t) = piece_of.Token t n

-- ---- signs

-- the longest sign that begins a text: longer ones stand first in the table
unfoldable pub first_sign : List ℕ → Option Sign
first_sign text = find (λ s. starts_with nat_eq text (sign_text s)) signs

-- a sign as a piece
abbrev pub sign_piece : Option Sign → Piece
sign_piece None = piece_of.Bad
sign_piece (Some s) = piece_of.Token (token.Sign s) (length (sign_text s))

-- the longest sign at the front
abbrev pub sign_at : List ℕ → Piece
sign_at text = sign_piece (first_sign text)

-- ---- what is skipped

-- space, and the bytes 9 to 13
abbrev pub is_white : ℕ → Bool
is_white b = nat_eq b 32 || (nat_le 9 b && nat_le b 13)

-- a line ends at byte 10, or at the end of the text
abbrev pub in_line : ℕ → Bool
in_line b = not (nat_eq b 10)

-- so many bytes, and the rest of the line behind them
abbrev pub line_behind : ℕ → List ℕ → Piece
line_behind n rest = piece_of.Skip (prefix_len in_line rest + n)

-- a text begins with `/`
abbrev pub begins_with_slash : List ℕ → Bool
begins_with_slash [] = false
begins_with_slash (b ∷ bs) = nat_eq b 47

-- so many bytes further on
abbrev pub further : ℕ → Option ℕ → Option ℕ
further n None = None
further n (Some k) = Some (n + k)

-- how many bytes a text has up to the end of its first `*/`
abbrev pub closing : List ℕ → Option ℕ
closing [] = None
closing (b ∷ bs) = if nat_eq b 42 && begins_with_slash bs then Some 2 else further 1 (closing bs)

-- `/*` and so many bytes up to its end; a comment that isn't closed is no piece
abbrev pub comment_to : Option ℕ → Piece
comment_to None = piece_of.Bad
comment_to (Some end) = piece_of.Skip (end + 2)

-- what begins with `/`: a comment `/* */`, whose end stands behind its begin, a comment `//`, or a sign
abbrev pub slash_at : List ℕ → Piece
slash_at [] = piece_of.Bad
slash_at (a ∷ []) = sign_at (a ∷ [])
slash_at (a ∷ b ∷ bs) = if nat_eq b 42 then comment_to (closing bs) else (if nat_eq b 47 then line_behind 2 bs else sign_at (a ∷ b ∷ bs))

-- what begins with `#`: `#define`, or `#include` with the rest of its line; no name goes on behind them
abbrev pub hash_at : List ℕ → Piece
hash_at [] = piece_of.Bad
hash_at (a ∷ bs) =
    if bytes_eq (word_at bs) (codes "define") then piece_of.Token token.Define 7 else (
    if bytes_eq (word_at bs) (codes "include") then line_behind 1 bs else piece_of.Bad)

-- ---- texts

-- a piece has a byte, and no more than so many
abbrev pub Moves : ℕ → Piece → Type 0
Moves most piece_of.End = Unit {0}
Moves most (piece_of.Skip n) = (1 ≤ n) × (n ≤ most)
Moves most (piece_of.Token t n) = (1 ≤ n) × (n ≤ most)
Moves most piece_of.Bad = Unit {0}

-- the piece at the front
unfoldable pub piece : List ℕ → Piece
piece [] = piece_of.End
piece (b ∷ bs) =
    if is_white b then piece_of.Skip 1 else (
    if is_word_byte b then piece_from (prefix_len is_word_byte (b ∷ bs)) (word_token (word_at (b ∷ bs))) else (
    if nat_eq b 35 then hash_at (b ∷ bs) else (
    if nat_eq b 47 then slash_at (b ∷ bs) else sign_at (b ∷ bs))))

-- a name token has a name's bytes
abbrev pub is_token : Token → Bool
is_token (token.Name w) = is_name w
is_token (token.Keyword k) = true
is_token token.Define = true
is_token (token.Number n) = true
is_token (token.Sign s) = true
