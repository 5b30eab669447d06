-- The pieces of a text: each has some of its bytes, and they are cut in one way.
use Rattle.std.proofs.Common.{◌≡◌, ◌-◌, ◌⊎◌, inl, inr, ℕ, zero, suc, ◌+◌, ◌≤◌, ◌&&◌, nat_eq, Bool, true, false, if◌then◌else◌, List, [], ◌∷◌, ◌++◌, length, drop, codes, Option, Some, None, IfSome, refl, sym, ap, subst, ◌∙◌, length-drop, arith}
use Rattle.std.proofs.lemmas.List.{length-take, drop-drop}
use Rattle.std.proofs.lemmas.Bool.{and_from}
use Rattle.std.proofs.lemmas.List.Sums.{prefix_len-le-length}
use Rattle.std.proofs.lemmas.Slice.Eq.{bytes_eq-Decides}
use Rattle.std.proofs.Math.Bool.{and-false}
use Rattle.std.specs.List.{list_all, prefix_len}
use Rattle.std.specs.Str.{bytes_eq}
use Rattle.domino_tree.specs.declared.token.Sign.{Sign}
use Rattle.domino_tree.specs.declared.token.Token.{Token}
use Rattle.domino_tree.specs.declared.token.Token.TheVariants as token
use Rattle.domino_tree.specs.Grammar.{is_word_byte, is_word_token, are_words}
use Rattle.domino_syntax.specs.declared.lex.Piece.{Piece}
use Rattle.domino_syntax.specs.declared.lex.Piece.TheVariants as piece_of
use Rattle.domino_syntax.specs.Tokens.{is_token, further, piece, is_white, word_token, word_at, piece_from, first_sign, sign_piece, sign_at, in_line, closing, comment_to, line_behind, slash_at, hash_at}
use Rattle.domino_syntax.specs.Pieces.{IsCut, ArePieces, IsBadAt}
use Rattle.domino_syntax.specs.Pieces.IsCut.{none, blank, more}
use Rattle.domino_tree.specs.Operators.{sign_text}
use Rattle.domino_syntax.proofs.SignLemmas.{first_fits}
use Rattle.domino_syntax.proofs.LexLemmas.{piece_is, IsPiece}

-- ---- a piece has no more bytes than the text

abbrev Fits : ℕ → Piece → Type 0
Fits most piece_of.End = most ≡ 0
Fits most (piece_of.Skip n) = n ≤ most
Fits most (piece_of.Token t n) = n ≤ most
Fits most piece_of.Bad = Unit {0}

fits_if : (m : ℕ) (c : Bool) (p q : Piece) → (c ≡ true → Fits m p) → Fits m q → Fits m (if c then p else q)
fits_if m true p q there other = there refl
fits_if m false p q there other = other

fits_from : (m n : ℕ) (o : Option Token) → n ≤ m → Fits m (piece_from n o)
fits_from m n None h = tt
fits_from m n (Some t) h = h

fits_found : (m : ℕ) (o : Option Sign) → IfSome o (λ s. length (sign_text s) ≤ m) → Fits m (sign_piece o)
fits_found m None h = tt
fits_found m (Some s) h = h

fits_sign : (z : List ℕ) → Fits (length z) (sign_at z)
fits_sign z = fits_found (length z) (first_sign z) (first_fits z)

some_up_to : (c : Bool) (n m : ℕ) (o : Option ℕ) → n ≤ m → IfSome o (λ e. e ≤ m) → IfSome (if c then Some n else o) (λ e. e ≤ m)
some_up_to true n m o here later = here
some_up_to false n m o here later = later

further_fits : (n m : ℕ) (o : Option ℕ) → 1 + n ≤ m → IfSome o (λ e. e ≤ n) → IfSome (further 1 o) (λ e. e ≤ m)
further_fits n m None h up = tt
further_fits n m (Some e) h up = omega (arith, h, up)

closing_fits : (z : List ℕ) → IfSome (closing z) (λ e. e ≤ length z)
closing_fits [] = tt
closing_fits (b ∷ []) = rw (and-false (nat_eq b 42)) tt
closing_fits (b ∷ d ∷ ds) =
    some_up_to (nat_eq b 42 && nat_eq d 47) 2 (length (b ∷ d ∷ ds)) (further 1 (closing (d ∷ ds))) (omega arith) (further_fits (length (d ∷ ds)) (length (b ∷ d ∷ ds)) (closing (d ∷ ds)) (omega arith) (closing_fits (d ∷ ds)))

fits_comment : (m : ℕ) (o : Option ℕ) → IfSome o (λ e. e ≤ m) → Fits (m + 2) (comment_to o)
fits_comment m None h = tt
fits_comment m (Some e) h = omega (arith, h)

fits_slash : (z : List ℕ) → Fits (length z) (slash_at z)
fits_slash [] = tt
fits_slash (a ∷ []) = fits_sign (a ∷ [])
fits_slash (a ∷ b ∷ bs) =
    let two : length bs + 2 ≡ length (a ∷ b ∷ bs) = omega arith in
    let P : ℕ → Type 0 = λ m. Fits m (comment_to (closing bs)) in
    let line = prefix_len-le-length in_line bs in
    fits_if (length (a ∷ b ∷ bs)) (nat_eq b 42) (comment_to (closing bs)) (if nat_eq b 47 then line_behind 2 bs else sign_at (a ∷ b ∷ bs)) (λ _. subst P two (fits_comment (length bs) (closing bs) (closing_fits bs))) (fits_if (length (a ∷ b ∷ bs)) (nat_eq b 47) (line_behind 2 bs) (sign_at (a ∷ b ∷ bs)) (λ _. omega (arith, line)) (fits_sign (a ∷ b ∷ bs)))

define_fits : (bs : List ℕ) → bytes_eq (word_at bs) (codes "define") ≡ true → 6 ≤ length bs
define_fits bs e =
    let same = (bytes_eq-Decides (word_at bs) (codes "define")).0 e in
    omega (arith, ap (λ w. length w) same, length-take (prefix_len is_word_byte bs) bs)

fits_hash : (z : List ℕ) → Fits (length z) (hash_at z)
fits_hash [] = tt
fits_hash (a ∷ bs) =
    let line = prefix_len-le-length in_line bs in
    fits_if (length (a ∷ bs)) (bytes_eq (word_at bs) (codes "define")) (piece_of.Token token.Define 7) (if bytes_eq (word_at bs) (codes "include") then line_behind 1 bs else piece_of.Bad) (λ e. omega (arith, define_fits bs e)) (fits_if (length (a ∷ bs)) (bytes_eq (word_at bs) (codes "include")) (line_behind 1 bs) piece_of.Bad (λ _. omega (arith, line)) tt)

fits_piece : (z : List ℕ) → Fits (length z) (piece z)
unfolding piece
fits_piece [] = refl
fits_piece (b ∷ bs) =
    let z = b ∷ bs in
    let signs = if nat_eq b 47 then slash_at z else sign_at z in
    let hashes = if nat_eq b 35 then hash_at z else signs in
    let words = piece_from (prefix_len is_word_byte z) (word_token (word_at z)) in
    fits_if (length z) (is_white b) (piece_of.Skip 1) (if is_word_byte b then words else hashes) (λ _. omega arith) (fits_if (length z) (is_word_byte b) words hashes (λ _. fits_from (length z) (prefix_len is_word_byte z) (word_token (word_at z)) (prefix_len-le-length is_word_byte z)) (fits_if (length z) (nat_eq b 35) (hash_at z) signs (λ _. fits_hash z) (fits_if (length z) (nat_eq b 47) (slash_at z) (sign_at z) (λ _. fits_slash z) (fits_sign z))))

-- ---- pieces one after another

piece_none : piece [] ≡ piece_of.End
unfolding piece
piece_none = refl

-- a text whose end is reached is empty
pub at_end : (z : List ℕ) → piece z ≡ piece_of.End → z ≡ []
at_end z e = empty z (subst (Fits (length z)) e (fits_piece z))
  where
    empty : (z : List ℕ) → length z ≡ 0 → z ≡ []
    empty [] h = refl
    empty (b ∷ bs) h = absurd (omega (arith, h))

-- white space and comments give no token
pub skipped : (text rest : List ℕ) (ts : List Token) (n : ℕ) → IsCut text ts rest → piece rest ≡ piece_of.Skip n → IsCut text ts (drop n rest)
skipped _ _ _ n (none rest) e = blank rest (drop n rest) n [] e (none (drop n rest))
skipped _ _ _ n (blank text rest k ts first later) e = blank text (drop n rest) k ts first (skipped (drop k text) rest ts n later e)
skipped _ _ _ n (more text rest t k ts first later) e = more text (drop n rest) t k ts first (skipped (drop k text) rest ts n later e)

-- one token more
pub token_taken : (text rest : List ℕ) (ts : List Token) (x : Token) (n : ℕ) → IsCut text ts rest → piece rest ≡ piece_of.Token x n → IsCut text (ts ++ x ∷ []) (drop n rest)
token_taken _ _ _ x n (none rest) e = more rest (drop n rest) x n [] e (none (drop n rest))
token_taken _ _ _ x n (blank text rest k ts first later) e = blank text (drop n rest) k (ts ++ x ∷ []) first (token_taken (drop k text) rest ts x n later e)
token_taken _ _ _ x n (more text rest t k ts first later) e = more text (drop n rest) t k (ts ++ x ∷ []) first (token_taken (drop k text) rest ts x n later e)

-- the rest stands at the end of the text
pub record StandsIn (text rest : List ℕ) : Type 0 where
  pub within : length rest ≤ length text
  pub place : drop (length text - length rest) text ≡ rest

behind_piece : (text rest : List ℕ) (n : ℕ) → n ≤ length text → StandsIn (drop n text) rest → StandsIn text rest
behind_piece text rest n fits h =
    let left : length (drop n text) ≡ length text - n = length-drop n text in
    let place : length text - length rest ≡ n + (length (drop n text) - length rest) = omega (arith, fits, left, h.within) in
    record {
      within = omega (arith, left, h.within);
      place = ap (λ k. drop k text) place ∙ sym (drop-drop (length (drop n text) - length rest) n text) ∙ h.place;
    }

pub stands_in : (text rest : List ℕ) (ts : List Token) → IsCut text ts rest → StandsIn text rest
stands_in _ _ _ (none rest) = record { within = omega arith; place = ap (λ k. drop k rest) (let none_left : length rest - length rest ≡ 0 = omega arith in none_left) }
stands_in _ _ _ (blank text rest n ts first later) = behind_piece text rest n (subst (Fits (length text)) first (fits_piece text)) (stands_in (drop n text) rest ts later)
stands_in _ _ _ (more text rest t n ts first later) = behind_piece text rest n (subst (Fits (length text)) first (fits_piece text)) (stands_in (drop n text) rest ts later)

-- a text has no more tokens than bytes
pub tokens_short : (text rest : List ℕ) (ts : List Token) → IsCut text ts rest → length ts ≤ length text
tokens_short _ _ _ (none rest) = omega arith
tokens_short _ _ _ (blank text rest n ts first later) = omega (arith, length-drop n text, tokens_short (drop n text) rest ts later)
tokens_short _ _ _ (more text rest t n ts first later) =
    let is : IsPiece (piece_of.Token t n) = subst IsPiece first (piece_is text) in
    let fits : n ≤ length text = subst (Fits (length text)) first (fits_piece text) in
    omega (arith, is.0, fits, length-drop n text, tokens_short (drop n text) rest ts later)

-- the name tokens of a text are names
pub tokens_are_names : (text rest : List ℕ) (ts : List Token) → IsCut text ts rest → list_all is_token ts ≡ true
tokens_are_names _ _ _ (none rest) = refl
tokens_are_names _ _ _ (blank text rest n ts first later) = tokens_are_names (drop n text) rest ts later
tokens_are_names _ _ _ (more text rest t n ts first later) =
    let is : IsPiece (piece_of.Token t n) = subst IsPiece first (piece_is text) in
    and_from (is_token t) (list_all is_token ts) is.1.0 (tokens_are_names (drop n text) rest ts later)

-- the numbers of a text are words
pub tokens_are_words : (text rest : List ℕ) (ts : List Token) → IsCut text ts rest → are_words ts ≡ true
tokens_are_words _ _ _ (none rest) = refl
tokens_are_words _ _ _ (blank text rest n ts first later) = tokens_are_words (drop n text) rest ts later
tokens_are_words _ _ _ (more text rest t n ts first later) =
    let is : IsPiece (piece_of.Token t n) = subst IsPiece first (piece_is text) in
    and_from (is_word_token t) (are_words ts) is.1.1 (tokens_are_words (drop n text) rest ts later)

-- ---- a text is cut in one way

-- no piece is behind it
abbrev pub Stops : Piece → Type 0
Stops piece_of.End = Unit {0}
Stops (piece_of.Skip n) = ⊥
Stops (piece_of.Token t n) = ⊥
Stops piece_of.Bad = Unit {0}

no_piece : (text rest : List ℕ) (ts : List Token) → IsCut text ts rest → Stops (piece text) → (ts ≡ []) × (rest ≡ text)
no_piece _ _ _ (none rest) stop = (refl, refl)
no_piece _ _ _ (blank text rest n ts first later) stop = absurd (subst Stops first stop)
no_piece _ _ _ (more text rest t n ts first later) stop = absurd (subst Stops first stop)

behind_blank : (text rest : List ℕ) (ts : List Token) (k : ℕ) → IsCut text ts rest → Stops (piece rest) → piece text ≡ piece_of.Skip k → IsCut (drop k text) ts rest
behind_blank _ _ _ k (none rest) stop e = absurd (subst Stops e stop)
behind_blank _ _ _ k (blank text rest n ts first later) stop e =
    let same : n ≡ k = let is = sym first ∙ e in cc in
    subst (λ k. IsCut (drop k text) ts rest) same later
behind_blank _ _ _ k (more text rest t n ts first later) stop e = absurd (let no = sym first ∙ e in cc)

record Behind (t : Token) (text : List ℕ) (ts : List Token) (rest : List ℕ) : Type 0 where
  others : List Token
  whole : ts ≡ t ∷ others
  cut : IsCut text others rest

behind_token : (text rest : List ℕ) (ts : List Token) (x : Token) (k : ℕ) → IsCut text ts rest → Stops (piece rest) → piece text ≡ piece_of.Token x k → Behind x (drop k text) ts rest
behind_token _ _ _ x k (none rest) stop e = absurd (subst Stops e stop)
behind_token _ _ _ x k (blank text rest n ts first later) stop e = absurd (let no = sym first ∙ e in cc)
behind_token _ _ _ x k (more text rest t n ts first later) stop e =
    let same : n ≡ k = let is = sym first ∙ e in cc in
    let token : t ≡ x = let is = sym first ∙ e in cc in
    record { others = ts; whole = ap (λ y. y ∷ ts) token; cut = subst (λ k. IsCut (drop k text) ts rest) same later }

pub one_cut : (text rest last : List ℕ) (ts us : List Token) → IsCut text ts rest → Stops (piece rest) → IsCut text us last → Stops (piece last) → (ts ≡ us) × (rest ≡ last)
one_cut _ _ last _ us (none rest) stop other ends =
    let h = no_piece rest last us other stop in
    (sym h.0, sym h.1)
one_cut _ _ last _ us (blank text rest n ts first later) stop other ends =
    one_cut (drop n text) rest last ts us later stop (behind_blank text last us n other ends first) ends
one_cut _ _ last _ us (more text rest t n ts first later) stop other ends =
    let h = behind_token text last us t n other ends first in
    let same = one_cut (drop n text) rest last ts h.others later stop h.cut ends in
    (ap (λ l. t ∷ l) same.0 ∙ sym h.whole, same.1)

-- a text has one list of tokens
pub one_list : (text : List ℕ) (ts us : List Token) → ArePieces text ts → ArePieces text us → ts ≡ us
one_list text ts us h k =
    let stop : Stops (piece []) = subst Stops (sym piece_none) tt in
    (one_cut text [] [] ts us h stop k stop).0

-- a byte is left where no piece begins
some_left : (z : List ℕ) → piece z ≡ piece_of.Bad → 1 ≤ length z
some_left [] e = absurd (let no = sym piece_none ∙ e in cc)
some_left (b ∷ bs) e = omega arith

-- a text of pieces is bad nowhere
pub pieces_or_bad : (text : List ℕ) (ts : List Token) (at : ℕ) → ArePieces text ts → IsBadAt text at → ⊥
pieces_or_bad text ts at h b =
    let same = one_cut text [] (drop at text) ts b.tokens h (subst Stops (sym piece_none) tt) b.cut (subst Stops (sym b.bad) tt) in
    let no = sym piece_none ∙ ap piece same.1 ∙ b.bad in
    cc

-- a text is bad at one place
pub one_bad : (text : List ℕ) (at place : ℕ) → IsBadAt text at → IsBadAt text place → at ≡ place
one_bad text at place h k =
    let same = one_cut text (drop at text) (drop place text) h.tokens k.tokens h.cut (subst Stops (sym h.bad) tt) k.cut (subst Stops (sym k.bad) tt) in
    omega (arith, ap length same.1, length-drop at text, length-drop place text, some_left (drop at text) h.bad, some_left (drop place text) k.bad)

-- ---- each text is pieces, or bad somewhere

record Whole (text : List ℕ) : Type 0 where
  tokens : List Token
  rest : List ℕ
  cut : IsCut text tokens rest
  stop : Stops (piece rest)

by_piece : (z : List ℕ) (p : Piece) → piece z ≡ p → IsPiece p → ((k : ℕ) → 1 ≤ k → Whole (drop k z)) → Whole z
by_piece z piece_of.End first is later = record { tokens = []; rest = z; cut = none z; stop = subst Stops (sym first) tt }
by_piece z (piece_of.Skip n) first is later =
    let w = later n is in
    record { tokens = w.tokens; rest = w.rest; cut = blank z w.rest n w.tokens first w.cut; stop = w.stop }
by_piece z (piece_of.Token t n) first is later =
    let w = later n is.0 in
    record { tokens = t ∷ w.tokens; rest = w.rest; cut = more z w.rest t n w.tokens first w.cut; stop = w.stop }
by_piece z piece_of.Bad first is later = record { tokens = []; rest = z; cut = none z; stop = subst Stops (sym first) tt }

fewer : (b n k : ℕ) (bs : List ℕ) → length (b ∷ bs) ≤ suc n → 1 ≤ k → length (drop k (b ∷ bs)) ≤ n
fewer b n k bs h moves = rw (length-drop k (b ∷ bs)) (omega arith)

whole_up_to : (n : ℕ) (z : List ℕ) → length z ≤ n → Whole z
whole_up_to n [] h = record { tokens = []; rest = []; cut = none []; stop = subst Stops (sym piece_none) tt }
whole_up_to zero (b ∷ bs) h = absurd (omega arith)
whole_up_to (suc n) (b ∷ bs) h = by_piece (b ∷ bs) (piece (b ∷ bs)) refl (piece_is (b ∷ bs)) (λ k moves. whole_up_to n (drop k (b ∷ bs)) (fewer b n k bs h moves))

-- where the rest of a text begins with no piece it is bad
pub bad_at : (text rest : List ℕ) (ts : List Token) → IsCut text ts rest → piece rest ≡ piece_of.Bad → IsBadAt text (length text - length rest)
bad_at text rest ts cut e =
    let place = (stands_in text rest ts cut).place in
    record { tokens = ts; cut = subst (IsCut text ts) (sym place) cut; bad = ap piece place ∙ e }

pub cut_or_bad : (text : List ℕ) → ((ts : List Token) × ArePieces text ts) ⊎ ((at : ℕ) × IsBadAt text at)
cut_or_bad text = by_rest (whole_up_to (length text) text (omega arith))
  where
    by_last : (w : Whole text) (p : Piece) → piece w.rest ≡ p → Stops p → ((ts : List Token) × ArePieces text ts) ⊎ ((at : ℕ) × IsBadAt text at)
    by_last w piece_of.End e stop = inl (w.tokens, subst (IsCut text w.tokens) (at_end w.rest e) w.cut)
    by_last w (piece_of.Skip n) e stop = absurd stop
    by_last w (piece_of.Token t n) e stop = absurd stop
    by_last w piece_of.Bad e stop = inr (length text - length w.rest, bad_at text w.rest w.tokens w.cut e)

    by_rest : Whole text → ((ts : List Token) × ArePieces text ts) ⊎ ((at : ℕ) × IsBadAt text at)
    by_rest w = by_last w (piece w.rest) refl w.stop
