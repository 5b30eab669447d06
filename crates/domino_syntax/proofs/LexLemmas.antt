-- What the piece at the front of a text is: its bytes, and that its name tokens are names and its numbers words.
use Rattle.std.proofs.Common.{◌≡◌, ℕ, ◌<◌, ◌≤◌, nat_eq, nat_le, Bool, true, false, ◌||◌, if◌then◌else◌, List, [], ◌∷◌, take, drop, codes, ℤ, pos, negsuc, w32, to_z, of_z, Option, Some, None, IfSome, refl, sym, ap, ◌∙◌, one-add, arith}
use Rattle.std.proofs.Math.Nat.{mod-eq_of_lt}
use Rattle.std.proofs.lemmas.Bool.{le-leb, lt-ltb, ltb-true}
use Rattle.std.proofs.lemmas.Int.{of_z-to_z, SFits-int_wrap}
use Rattle.std.specs.Char.{is_ascii_alphabetic, is_ascii_digit}
use Rattle.std.specs.Prelude.{FitsSigned}
use Rattle.std.specs.Int.{is_in_range, int_wrap}
use Rattle.std.specs.List.{list_all, prefix_len}
use Rattle.std.specs.Str.{bytes_eq}
use Rattle.std.specs.Str.Parse.{digits_value}
use Rattle.mp5_words.specs.Words.{word}
use Rattle.domino_tree.specs.declared.token.Sign.{Sign}
use Rattle.domino_tree.specs.declared.token.Token.{Token}
use Rattle.domino_tree.specs.declared.token.Token.TheVariants as token
use Rattle.domino_tree.specs.declared.token.Keyword.TheVariants as keyword
use Rattle.domino_tree.specs.Grammar.{is_word, is_word_token, is_word_byte, is_reserved, is_name}
use Rattle.domino_syntax.specs.declared.lex.Piece.{Piece}
use Rattle.domino_syntax.specs.declared.lex.Piece.TheVariants as piece_of
use Rattle.domino_syntax.proofs.SignLemmas.{some_text}
use Rattle.domino_syntax.specs.Tokens.{bounded, is_decimal, is_hexadecimal, number, name, word_token, word_at, piece_from, first_sign, sign_piece, sign_at, closing, comment_to, line_behind, slash_at, hash_at, is_white, piece, is_token}

-- ---- numbers

word_small : (n : ℕ) → n < 4294967296 → int_wrap w32 (pos n) ≡ to_z w32 n
unfolding int_wrap
word_small n h = ap (to_z w32) (mod-eq_of_lt h)

-- a number of at most 32 bits
pub bounded_of : (m n : ℕ) → n < 4294967296 → n ≡ m → Some (token.Number (to_z w32 (of_z w32 (to_z w32 n)))) ≡ bounded m
unfolding bounded
bounded_of m n fits e =
    let small : nat_le m 4294967295 ≡ true = le-leb _ _ (omega arith) in
    rw (small, ← e) (ap (λ z. Some (token.Number z)) (ap (to_z w32) (of_z-to_z w32 n fits) ∙ sym (word_small n fits)))

-- a number of 32 bits
pub fits_word : (z : ℤ) → FitsSigned w32 z → is_word z ≡ true
fits_word (pos n) h = lt-ltb n 2147483648 h.sfits
fits_word (negsuc n) h = lt-ltb n 2147483648 h.sfits

pub word_fits : (z : ℤ) → is_word z ≡ true → FitsSigned w32 z
word_fits (pos n) h = record { sfits = ltb-true n 2147483648 h }
word_fits (negsuc n) h = record { sfits = ltb-true n 2147483648 h }

-- what is left of a number in 32 bits is one
pub word_is : (z : ℤ) → is_word (word z) ≡ true
word_is z = fits_word (word z) (SFits-int_wrap w32 z)

-- ---- pieces

-- where the token is a name, it is one, and where it is a number, it is a word
abbrev pub IsToken : Token → Type 0
IsToken t = (is_token t ≡ true) × (is_word_token t ≡ true)

-- a piece that is there has a byte, and a token in it is one
abbrev pub IsPiece : Piece → Type 0
IsPiece piece_of.End = Unit {0}
IsPiece (piece_of.Skip n) = 1 ≤ n
IsPiece (piece_of.Token t n) = (1 ≤ n) × IsToken t
IsPiece piece_of.Bad = Unit {0}

piece_if : (c : Bool) (p q : Piece) → (c ≡ true → IsPiece p) → (c ≡ false → IsPiece q) → IsPiece (if c then p else q)
piece_if true p q there other = there refl
piece_if false p q there other = other refl

some_if : (c : Bool) (x y : Option Token) → (c ≡ true → IfSome x IsToken) → (c ≡ false → IfSome y IsToken) → IfSome (if c then x else y) IsToken
some_if true x y there other = there refl
some_if false x y there other = other refl

-- ---- words

taken : (p : ℕ → Bool) (x : ℕ) (xs : List ℕ) → p x ≡ true → take (prefix_len p (x ∷ xs)) (x ∷ xs) ≡ x ∷ take (prefix_len p xs) xs
taken p x xs h = rw (h, one-add (prefix_len p xs)) refl

passes : (p : ℕ → Bool) (x : ℕ) (xs : List ℕ) (b : Bool) → p x ≡ b → list_all p (take (prefix_len p xs) xs) ≡ true → list_all p (take (prefix_len p (x ∷ xs)) (x ∷ xs)) ≡ true
passes p x xs true h later = rw (taken p x xs h, h, later) refl
passes p x xs false h later = rw h refl

prefix_passes : (p : ℕ → Bool) (xs : List ℕ) → list_all p (take (prefix_len p xs) xs) ≡ true
prefix_passes p [] = refl
prefix_passes p (x ∷ xs) = passes p x xs (p x) refl (prefix_passes p xs)

-- a word byte that is no digit
begins : (digit upper lower line : Bool) → digit ≡ false → (((digit || upper) || lower) || line) ≡ true → ((upper || lower) || line) ≡ true
begins digit upper lower line h e = rw h at e

-- a word that is none of five is a name
picked : (s i v f e : Bool) (w : List ℕ) → ((s || (i || (v || (f || e)))) ≡ false → is_name w ≡ true) → IsToken (if s then token.Keyword keyword.Struct else (if i then token.Keyword keyword.Int else (if v then token.Keyword keyword.Void else (if f then token.Keyword keyword.If else (if e then token.Keyword keyword.Else else token.Name w)))))
picked true i v f e w h = (refl, refl)
picked false true v f e w h = (refl, refl)
picked false false true f e w h = (refl, refl)
picked false false false true e w h = (refl, refl)
picked false false false false true w h = (refl, refl)
picked false false false false false w h = (h refl, refl)

name_is : (b : ℕ) (bs : List ℕ) → (is_ascii_alphabetic b || nat_eq b 95) ≡ true → list_all is_word_byte bs ≡ true → is_reserved (b ∷ bs) ≡ false → is_name (b ∷ bs) ≡ true
unfolding is_name
name_is b bs first rest none = rw (first, rest, none) refl

name_token : (b : ℕ) (bs : List ℕ) → (is_ascii_alphabetic b || nat_eq b 95) ≡ true → list_all is_word_byte bs ≡ true → IsToken (name (b ∷ bs))
unfolding name
name_token b bs first rest = picked (bytes_eq (b ∷ bs) (codes "struct")) (bytes_eq (b ∷ bs) (codes "int")) (bytes_eq (b ∷ bs) (codes "void")) (bytes_eq (b ∷ bs) (codes "if")) (bytes_eq (b ∷ bs) (codes "else")) (b ∷ bs) (name_is b bs first rest)

bounded_token : (n : ℕ) → IfSome (bounded n) IsToken
unfolding bounded
bounded_token n = some_if (nat_le n 4294967295) (Some (token.Number (word (pos n)))) None (λ _. (refl, word_is (pos n))) (λ _. tt)

number_token : (w : List ℕ) → IfSome (number w) IsToken
number_token w =
    some_if (is_decimal w) (bounded (digits_value 10 w)) (if is_hexadecimal w then bounded (digits_value 16 (drop 2 w)) else None) (λ _. bounded_token (digits_value 10 w)) (λ _. some_if (is_hexadecimal w) (bounded (digits_value 16 (drop 2 w))) None (λ _. bounded_token (digits_value 16 (drop 2 w))) (λ _. tt))

word_token_is : (b : ℕ) (bs : List ℕ) → is_word_byte b ≡ true → list_all is_word_byte bs ≡ true → IfSome (word_token (b ∷ bs)) IsToken
word_token_is b bs first rest =
    some_if (is_ascii_digit b) (number (b ∷ bs)) (Some (name (b ∷ bs))) (λ _. number_token (b ∷ bs)) (λ h. name_token b bs (begins (is_in_range 48 57 b) (is_in_range 65 90 b) (is_in_range 97 122 b) (nat_eq b 95) h first) rest)

piece_from_is : (n : ℕ) (o : Option Token) → 1 ≤ n → IfSome o IsToken → IsPiece (piece_from n o)
piece_from_is n None moves is = tt
piece_from_is n (Some t) moves is = (moves, is)

word_piece_is : (b : ℕ) (bs : List ℕ) → is_word_byte b ≡ true → IsPiece (piece_from (prefix_len is_word_byte (b ∷ bs)) (word_token (word_at (b ∷ bs))))
word_piece_is b bs h =
    let moves : 1 ≤ prefix_len is_word_byte (b ∷ bs) = rw h (omega arith) in
    piece_from_is (prefix_len is_word_byte (b ∷ bs)) (word_token (word_at (b ∷ bs))) moves (rw (taken is_word_byte b bs h) (word_token_is b (take (prefix_len is_word_byte bs) bs) h (prefix_passes is_word_byte bs)))

-- ---- signs, comments and `#`

sign_piece_is : (o : Option Sign) → IsPiece (sign_piece o)
sign_piece_is None = tt
sign_piece_is (Some s) = (some_text s, (refl, refl))

sign_is : (z : List ℕ) → IsPiece (sign_at z)
sign_is z = sign_piece_is (first_sign z)

comment_is : (o : Option ℕ) → IsPiece (comment_to o)
comment_is None = tt
comment_is (Some end) = omega arith

slash_is : (z : List ℕ) → IsPiece (slash_at z)
slash_is [] = tt
slash_is (a ∷ []) = sign_is (a ∷ [])
slash_is (a ∷ b ∷ bs) =
    piece_if (nat_eq b 42) (comment_to (closing bs)) (if nat_eq b 47 then line_behind 2 bs else sign_at (a ∷ b ∷ bs)) (λ _. comment_is (closing bs)) (λ _. piece_if (nat_eq b 47) (line_behind 2 bs) (sign_at (a ∷ b ∷ bs)) (λ _. omega arith) (λ _. sign_is (a ∷ b ∷ bs)))

hash_is : (z : List ℕ) → IsPiece (hash_at z)
hash_is [] = tt
hash_is (a ∷ bs) =
    piece_if (bytes_eq (word_at bs) (codes "define")) (piece_of.Token token.Define 7) (if bytes_eq (word_at bs) (codes "include") then line_behind 1 bs else piece_of.Bad) (λ _. (omega arith, (refl, refl))) (λ _. piece_if (bytes_eq (word_at bs) (codes "include")) (line_behind 1 bs) piece_of.Bad (λ _. omega arith) (λ _. tt))

-- ---- the front

-- the piece at the front is one
pub piece_is : (z : List ℕ) → IsPiece (piece z)
unfolding piece
piece_is [] = tt
piece_is (b ∷ bs) =
    let z = b ∷ bs in
    let signs = if nat_eq b 47 then slash_at z else sign_at z in
    let hashes = if nat_eq b 35 then hash_at z else signs in
    let words = piece_from (prefix_len is_word_byte z) (word_token (word_at z)) in
    piece_if (is_white b) (piece_of.Skip 1) (if is_word_byte b then words else hashes) (λ _. omega arith) (λ _. piece_if (is_word_byte b) words hashes (word_piece_is b bs) (λ _. piece_if (nat_eq b 35) (hash_at z) signs (λ _. hash_is z) (λ _. piece_if (nat_eq b 47) (slash_at z) (sign_at z) (λ _. slash_is z) (λ _. sign_is z))))
