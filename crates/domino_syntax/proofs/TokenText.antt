-- The text of a token is the piece at the front of a text, where a white byte follows it.
use Rattle.std.proofs.Common.{◌≡◌, ◌⊎◌, inl, inr, ℕ, ◌+◌, ◌<◌, ◌≤◌, ◌^◌, ◌%◌, ◌-◌, ℤ, FitsSigned, w32, to_z, of_z, nat_eq, nat_le, Bool, true, false, not, ◌&&◌, ◌||◌, if◌then◌else◌, List, [], ◌∷◌, ◌++◌, length, take, drop, codes, Some, None, refl, sym, ap, subst, ◌∙◌, one-add, arith}
use Rattle.std.proofs.Math.Seq.{take-append_seam}
use Rattle.std.proofs.Math.Facts.{Fits-of_z, Fits-lt-pow, to_z-of_z}
use Rattle.std.proofs.lemmas.Bool.{leb-true, le-leb, lt-leb, lt-ltb, le-ltb, eqb-true, eq-eqb, ne_eqb, and_parts, and_from, or_cases, or_left, or_right, or_from, not-true, cases_lt}
use Rattle.std.proofs.lemmas.Fmt.{decimal_is_IsNumeral, decimal_by_steps}
use Rattle.std.proofs.lemmas.List.Folds.{list_all-append}
use Rattle.std.specs.Char.{is_digit, is_ascii_digit, is_ascii_alphabetic, is_ascii_alphanumeric}
use Rattle.std.specs.Fmt.{decimal}
use Rattle.std.specs.Int.{cast_unsigned}
use Rattle.std.specs.List.{list_all, prefix_len}
use Rattle.std.specs.Str.{bytes_eq}
use Rattle.std.specs.Str.Parse.{digits_value}
use Rattle.domino_tree.specs.declared.token.Sign.{Sign}
use Rattle.domino_tree.specs.declared.token.Sign.TheVariants as sign
use Rattle.domino_tree.specs.declared.token.Keyword.{Keyword}
use Rattle.domino_tree.specs.declared.token.Keyword.TheVariants as keyword
use Rattle.domino_tree.specs.declared.token.Token.{Token}
use Rattle.domino_tree.specs.declared.token.Token.TheVariants as token
use Rattle.domino_tree.specs.Grammar.{is_word_token, is_word_byte, is_reserved, is_name}
use Rattle.domino_tree.specs.Text.{keyword_text, token_text}
use Rattle.domino_tree.specs.Operators.{sign_text}
use Rattle.domino_syntax.specs.declared.lex.Piece.{Piece}
use Rattle.domino_syntax.specs.declared.lex.Piece.TheVariants as piece_of
use Rattle.domino_syntax.specs.Tokens.{are_digits, is_decimal, is_hexadecimal, bounded, number, name, word_token, word_at, piece_from, is_white, first_sign, sign_at, hash_at, slash_at, piece, is_token}
use Rattle.domino_syntax.proofs.LexLemmas.{word_fits, bounded_of}

-- a space, or the end of a line
abbrev pub gap : Bool → ℕ
gap true = 32
gap false = 10

-- ---- signs, reserved names and `#define`

sign_text_piece : (s : Sign) (g : Bool) (rest : List ℕ) → piece (sign_text s ++ gap g ∷ rest) ≡ piece_of.Token (token.Sign s) (length (sign_text s))
unfolding piece first_sign
sign_text_piece sign.Plus true rest = refl
sign_text_piece sign.Plus false rest = refl
sign_text_piece s true rest = refl
sign_text_piece s false rest = refl

keyword_piece : (k : Keyword) (g : Bool) (rest : List ℕ) → piece (keyword_text k ++ gap g ∷ rest) ≡ piece_of.Token (token.Keyword k) (length (keyword_text k))
unfolding piece name
keyword_piece keyword.Struct true rest = refl
keyword_piece keyword.Struct false rest = refl
keyword_piece k true rest = refl
keyword_piece k false rest = refl

define_piece : (g : Bool) (rest : List ℕ) → piece (codes "#define" ++ gap g ∷ rest) ≡ piece_of.Token token.Define 7
unfolding piece
define_piece true rest = refl
define_piece false rest = refl

-- ---- words

if_true : {A : Type 0} (c : Bool) (x y : A) → c ≡ true → (if c then x else y) ≡ x
if_true true x y h = refl
if_true false x y h = absurd (let no = h in cc)

if_false : {A : Type 0} (c : Bool) (x y : A) → c ≡ false → (if c then x else y) ≡ y
if_false true x y h = absurd (let no = h in cc)
if_false false x y h = refl

gap_ends : (g : Bool) → is_word_byte (gap g) ≡ false
gap_ends true = refl
gap_ends false = refl

-- what passes a test, up to what doesn't
prefix_all : (p : ℕ → Bool) (xs : List ℕ) (w : ℕ) (rest : List ℕ) → list_all p xs ≡ true → p w ≡ false → prefix_len p (xs ++ w ∷ rest) ≡ length xs
prefix_all p [] w rest all none = rw none refl
prefix_all p (x ∷ xs) w rest all none =
    let parts = and_parts (p x) (list_all p xs) all in
    rw (parts.0, prefix_all p xs w rest parts.1 none) (one-add (length xs))

-- a word byte is no white space
word_large : (b : ℕ) → is_word_byte b ≡ true → 48 ≤ b
word_large b h = at (or_cases (is_ascii_alphanumeric b) (nat_eq b 95) h)
  where
    in_range : (low high : ℕ) → 48 ≤ low → (nat_le low b && nat_le b high) ≡ true → 48 ≤ b
    in_range low high least e = omega (arith, least, leb-true low b (and_parts (nat_le low b) (nat_le b high) e).0)

    lower : ((nat_le 48 b && nat_le b 57) || (nat_le 65 b && nat_le b 90)) ≡ true ⊎ (nat_le 97 b && nat_le b 122) ≡ true → 48 ≤ b
    lower (inl e) = digits (or_cases (nat_le 48 b && nat_le b 57) (nat_le 65 b && nat_le b 90) e)
      where
        digits : (nat_le 48 b && nat_le b 57) ≡ true ⊎ (nat_le 65 b && nat_le b 90) ≡ true → 48 ≤ b
        digits (inl d) = in_range 48 57 (omega arith) d
        digits (inr d) = in_range 65 90 (omega arith) d
    lower (inr e) = in_range 97 122 (omega arith) e

    at : is_ascii_alphanumeric b ≡ true ⊎ nat_eq b 95 ≡ true → 48 ≤ b
    at (inl e) = lower (or_cases ((nat_le 48 b && nat_le b 57) || (nat_le 65 b && nat_le b 90)) (nat_le 97 b && nat_le b 122) e)
    at (inr e) = omega (arith, eqb-true b 95 e)

not_white : (b : ℕ) → 48 ≤ b → is_white b ≡ false
not_white b h = or_from (nat_eq b 32) (nat_le 9 b && nat_le b 13) (ne_eqb b 32 (λ e. omega (arith, e, h))) (rw (lt-leb b 13 (omega (arith, h))) (none (nat_le 9 b)))
  where
    none : (x : Bool) → (x && false) ≡ false
    none true = refl
    none false = refl

-- a word is the piece at the front, where no word byte follows it
word_piece : (b : ℕ) (bs : List ℕ) (t : Token) (g : Bool) (rest : List ℕ) → is_word_byte b ≡ true → list_all is_word_byte bs ≡ true → word_token (b ∷ bs) ≡ Some t → piece ((b ∷ bs) ++ gap g ∷ rest) ≡ piece_of.Token t (length (b ∷ bs))
unfolding piece
word_piece b bs t g rest first all is =
    let z : List ℕ = (b ∷ bs) ++ gap g ∷ rest in
    let words : Piece = piece_from (prefix_len is_word_byte z) (word_token (word_at z)) in
    let hashes : Piece = if nat_eq b 35 then hash_at z else (if nat_eq b 47 then slash_at z else sign_at z) in
    let whole : prefix_len is_word_byte z ≡ length (b ∷ bs) = prefix_all is_word_byte (b ∷ bs) (gap g) rest (and_from (is_word_byte b) (list_all is_word_byte bs) first all) (gap_ends g) in
    if_false (is_white b) (piece_of.Skip 1) (if is_word_byte b then words else hashes) (not_white b (word_large b first))
    ∙ if_true (is_word_byte b) words hashes first
    ∙ ap (λ n. piece_from n (word_token (take n z))) whole
    ∙ ap (λ w. piece_from (length (b ∷ bs)) (word_token w)) (take-append_seam (b ∷ bs) (gap g ∷ rest))
    ∙ ap (piece_from (length (b ∷ bs))) is

-- ---- names

-- a word that is none of five is no reserved name
plain : (s i v f e : Bool) (w : List ℕ) → (s || (i || (v || (f || e)))) ≡ false → (if s then token.Keyword keyword.Struct else (if i then token.Keyword keyword.Int else (if v then token.Keyword keyword.Void else (if f then token.Keyword keyword.If else (if e then token.Keyword keyword.Else else token.Name w))))) ≡ token.Name w
plain true i v f e w h = absurd (let no = h in cc)
plain false true v f e w h = absurd (let no = h in cc)
plain false false true f e w h = absurd (let no = h in cc)
plain false false false true e w h = absurd (let no = h in cc)
plain false false false false true w h = absurd (let no = h in cc)
plain false false false false false w h = refl

name_plain : (w : List ℕ) → is_reserved w ≡ false → name w ≡ token.Name w
unfolding name
name_plain w h = plain (bytes_eq w (codes "struct")) (bytes_eq w (codes "int")) (bytes_eq w (codes "void")) (bytes_eq w (codes "if")) (bytes_eq w (codes "else")) w h

-- letters and `_` are word bytes, and no digits
letter_word : (b : ℕ) → (is_ascii_alphabetic b || nat_eq b 95) ≡ true → is_word_byte b ≡ true
letter_word b h = joined (nat_le 48 b && nat_le b 57) (nat_le 65 b && nat_le b 90) (nat_le 97 b && nat_le b 122) (nat_eq b 95) h
  where
    joined : (digit upper lower line : Bool) → ((upper || lower) || line) ≡ true → (((digit || upper) || lower) || line) ≡ true
    joined true upper lower line e = refl
    joined false upper lower line e = e

letter_large : (b : ℕ) → (is_ascii_alphabetic b || nat_eq b 95) ≡ true → 65 ≤ b
letter_large b h = at (or_cases (is_ascii_alphabetic b) (nat_eq b 95) h)
  where
    letters : (nat_le 65 b && nat_le b 90) ≡ true ⊎ (nat_le 97 b && nat_le b 122) ≡ true → 65 ≤ b
    letters (inl e) = leb-true 65 b (and_parts (nat_le 65 b) (nat_le b 90) e).0
    letters (inr e) = omega (arith, leb-true 97 b (and_parts (nat_le 97 b) (nat_le b 122) e).0)

    at : is_ascii_alphabetic b ≡ true ⊎ nat_eq b 95 ≡ true → 65 ≤ b
    at (inl e) = letters (or_cases (nat_le 65 b && nat_le b 90) (nat_le 97 b && nat_le b 122) e)
    at (inr e) = omega (arith, eqb-true b 95 e)

no_digit : (b : ℕ) → 65 ≤ b → is_ascii_digit b ≡ false
no_digit b h = rw (lt-leb b 57 (omega (arith, h))) (none (nat_le 48 b))
  where
    none : (x : Bool) → (x && false) ≡ false
    none true = refl
    none false = refl

name_piece : (w : List ℕ) (g : Bool) (rest : List ℕ) → is_name w ≡ true → piece (w ++ gap g ∷ rest) ≡ piece_of.Token (token.Name w) (length w)
unfolding is_name
name_piece [] g rest h = absurd (let no = h in cc)
name_piece (b ∷ bs) g rest h =
    let parts = and_parts (is_ascii_alphabetic b || nat_eq b 95) (list_all is_word_byte bs && not (is_reserved (b ∷ bs))) h in
    let later = and_parts (list_all is_word_byte bs) (not (is_reserved (b ∷ bs))) parts.1 in
    let is : word_token (b ∷ bs) ≡ Some (token.Name (b ∷ bs)) = if_false (is_ascii_digit b) (number (b ∷ bs)) (Some (name (b ∷ bs))) (no_digit b (letter_large b parts.0)) ∙ ap (λ t. Some t) (name_plain (b ∷ bs) (not-true (is_reserved (b ∷ bs)) later.1)) in
    word_piece b bs (token.Name (b ∷ bs)) g rest (letter_word b parts.0) later.0 is

-- ---- numbers

-- the digits of a number, with no 0 in front of others
record Digits (n : ℕ) (ds : List ℕ) : Type 0 where
  head : ℕ
  tail : List ℕ
  whole : ds ≡ head ∷ tail
  first : is_ascii_digit head ≡ true
  others : list_all is_ascii_digit tail ≡ true
  leads : 1 ≤ n → 49 ≤ head
  alone : n < 10 → (tail ≡ []) × (head ≡ 48 + n)

a_digit : (d : ℕ) → d < 10 → is_ascii_digit (48 + d) ≡ true
a_digit d h = and_from (nat_le 48 (48 + d)) (nat_le (48 + d) 57) (le-leb 48 (48 + d) (omega arith)) (le-leb (48 + d) 57 (omega (arith, h)))

decimal_digits : (n : ℕ) → n < 2 ^ 64 → Digits n (decimal n)
decimal_digits = decimal_by_steps Digits
    (λ n h. record { head = 48 + n; tail = []; whole = refl; first = a_digit n h; others = refl; leads = λ one. omega (arith, one); alone = λ _. (refl, refl) })
    (λ n ds h d. record {
      head = d.head;
      tail = d.tail ++ (48 + n % 10) ∷ [];
      whole = ap (λ xs. xs ++ (48 + n % 10) ∷ []) d.whole;
      first = d.first;
      others = list_all-append is_ascii_digit d.tail ((48 + n % 10) ∷ []) ∙ and_from (list_all is_ascii_digit d.tail) (is_ascii_digit (48 + n % 10) && true) d.others (and_from (is_ascii_digit (48 + n % 10)) true (a_digit (n % 10) (omega arith)) refl);
      leads = λ one. d.leads (omega (arith, h));
      alone = λ small. absurd (omega (arith, small, h));
    })

all_from : (p q : ℕ → Bool) → ((b : ℕ) → p b ≡ true → q b ≡ true) → (bs : List ℕ) → list_all p bs ≡ true → list_all q bs ≡ true
all_from p q each [] h = refl
all_from p q each (b ∷ bs) h =
    let parts = and_parts (p b) (list_all p bs) h in
    and_from (q b) (list_all q bs) (each b parts.0) (all_from p q each bs parts.1)

digit_between : (b : ℕ) → is_ascii_digit b ≡ true → (48 ≤ b) × (b ≤ 57)
digit_between b h =
    let parts = and_parts (nat_le 48 b) (nat_le b 57) h in
    (leb-true 48 b parts.0, leb-true b 57 parts.1)

digit_is : (b : ℕ) → is_ascii_digit b ≡ true → is_digit b 10 ≡ true
digit_is b h =
    let range = digit_between b h in
    rw (le-ltb b 48 range.0, lt-ltb b 58 (omega (arith, range.1))) (lt-ltb (b - 48) 10 (omega (arith, range.0, range.1)))

digit_word : (b : ℕ) → is_ascii_digit b ≡ true → is_word_byte b ≡ true
digit_word b h = or_left (is_ascii_alphanumeric b) (nat_eq b 95) (or_left ((nat_le 48 b && nat_le b 57) || (nat_le 65 b && nat_le b 90)) (nat_le 97 b && nat_le b 122) (or_left (nat_le 48 b && nat_le b 57) (nat_le 65 b && nat_le b 90) h))

no_zeros : (n head : ℕ) (tail : List ℕ) → (1 ≤ n → 49 ≤ head) → (n < 10 → (tail ≡ []) × (head ≡ 48 + n)) → ((nat_eq head 48 && nat_eq (length tail) 0) || nat_le 49 head) ≡ true
no_zeros n head tail leads alone = at (cases_lt n 1)
  where
    at : (n < 1) ⊎ (1 ≤ n) → ((nat_eq head 48 && nat_eq (length tail) 0) || nat_le 49 head) ≡ true
    at (inl small) =
        let one = alone (omega (arith, small)) in
        or_left (nat_eq head 48 && nat_eq (length tail) 0) (nat_le 49 head) (and_from (nat_eq head 48) (nat_eq (length tail) 0) (eq-eqb head 48 (omega (arith, one.1, small))) (eq-eqb (length tail) 0 (ap (λ xs. length xs) one.0)))
    at (inr more) = or_right (nat_eq head 48 && nat_eq (length tail) 0) (nat_le 49 head) (le-leb 49 head (leads more))

decimal_is : (n : ℕ) → n < 2 ^ 64 → is_decimal (decimal n) ≡ true
decimal_is n h =
    let d = decimal_digits n h in
    subst (λ ds. is_decimal ds ≡ true) (sym d.whole)
    (and_from (are_digits 10 (d.head ∷ d.tail)) ((nat_eq d.head 48 && nat_eq (length d.tail) 0) || nat_le 49 d.head)
    (and_from (is_digit d.head 10) (are_digits 10 d.tail) (digit_is d.head d.first) (all_from is_ascii_digit (λ b. is_digit b 10) digit_is d.tail d.others))
    (no_zeros n d.head d.tail d.leads d.alone))

-- the number that the text of a word writes
number_of_text : (z : ℤ) → FitsSigned w32 z → number (decimal (cast_unsigned w32 z)) ≡ Some (token.Number z)
number_of_text z fits =
    let n : ℕ = of_z w32 z in
    let small : n < 4294967296 = Fits-lt-pow {w = w32} {n = n} (Fits-of_z {w = w32} {z = z} fits) in
    let ds : List ℕ = decimal n in
    let back : digits_value 10 ds ≡ n = (decimal_is_IsNumeral n (omega (arith, small))).1 in
    if_true (is_decimal ds) (bounded (digits_value 10 ds)) (if is_hexadecimal ds then bounded (digits_value 16 (drop 2 ds)) else None) (decimal_is n (omega (arith, small)))
    ∙ sym (bounded_of (digits_value 10 ds) n small (sym back))
    ∙ ap (λ y. Some (token.Number y)) (ap (λ y. to_z w32 (of_z w32 y)) (to_z-of_z {w = w32} {z = z} fits) ∙ to_z-of_z {w = w32} {z = z} fits)

number_piece : (z : ℤ) (g : Bool) (rest : List ℕ) → FitsSigned w32 z → piece (decimal (cast_unsigned w32 z) ++ gap g ∷ rest) ≡ piece_of.Token (token.Number z) (length (decimal (cast_unsigned w32 z)))
number_piece z g rest fits =
    let n : ℕ = of_z w32 z in
    let small : n < 4294967296 = Fits-lt-pow {w = w32} {n = n} (Fits-of_z {w = w32} {z = z} fits) in
    let d = decimal_digits n (omega (arith, small)) in
    let is : word_token (d.head ∷ d.tail) ≡ Some (token.Number z) = if_true (is_ascii_digit d.head) (number (d.head ∷ d.tail)) (Some (name (d.head ∷ d.tail))) d.first ∙ ap number (sym d.whole) ∙ number_of_text z fits in
    subst (λ ds. piece (ds ++ gap g ∷ rest) ≡ piece_of.Token (token.Number z) (length ds)) (sym d.whole)
    (word_piece d.head d.tail (token.Number z) g rest (digit_word d.head d.first) (all_from is_ascii_digit is_word_byte digit_word d.tail d.others) is)

-- ---- any token

-- a token's text, where a space or the end of a line follows it, is the piece at the front
pub token_piece : (t : Token) (g : Bool) (rest : List ℕ) → is_token t ≡ true → is_word_token t ≡ true → piece (token_text t ++ gap g ∷ rest) ≡ piece_of.Token t (length (token_text t))
token_piece (token.Name w) g rest is word = name_piece w g rest is
token_piece (token.Keyword k) g rest is word = keyword_piece k g rest
token_piece token.Define g rest is word = define_piece g rest
token_piece (token.Number z) g rest is word = number_piece z g rest (word_fits z word)
token_piece (token.Sign s) g rest is word = sign_text_piece s g rest
