-- The search among the signs that begin with a text's first byte finds what the search among all does.
use Rattle.std.proofs.Common.{◌≡◌, ◌<◌, ◌≤◌, ℕ, ◌+◌, Bool, true, false, nat_eq, List, [], ◌∷◌, ◌++◌, map, length, get_or, filter, find, Some, None, refl, sym, ap, ◌∙◌, if◌then◌else◌, arith}
use Rattle.std.proofs.lemmas.List.{length-map, get_or-map}
use Rattle.std.proofs.lemmas.List.FromFn.{map-range_with_len_more, get_or-map-range_with_len, length-map-range_with_len}
use Rattle.std.specs.List.{starts_with, range_with_len}
use Rattle.domino_tree.specs.declared.token.Sign.{Sign}
use Rattle.domino_tree.specs.Operators.{sign_text, signs}
use Rattle.domino_syntax.specs.Tokens.{first_sign}
use Rattle.domino_syntax.specs.SignIndex.{begins_with, first_of, signs_with, signs_by_first}
use Rattle.domino_syntax.proofs.SignLemmas.{some_text}

-- what is found among all is found among those that pass a weaker test
found_among : {X : Type 0} (p q : X → Bool) → ((x : X) → p x ≡ true → q x ≡ true) → (xs : List X) → find p (filter q xs) ≡ find p xs
found_among p q weaker [] = refl
found_among p q weaker (x ∷ xs) = here (p x) (q x) refl refl (found_among p q weaker xs)
  where
    here : (b d : Bool) → p x ≡ b → q x ≡ d → find p (filter q xs) ≡ find p xs → find p (if d then x ∷ filter q xs else filter q xs) ≡ (if b then Some x else find p xs)
    here true true is passes later = rw is refl
    here true false is passes later = absurd (let e = sym passes ∙ weaker x is in cc)
    here false true is passes later = rw is later
    here false false is passes later = later

-- a text that begins with some bytes begins with the first of them
first_byte : (b : ℕ) (bs front : List ℕ) → 1 ≤ length front → starts_with nat_eq (b ∷ bs) front ≡ true → starts_with nat_eq front (b ∷ []) ≡ true
first_byte b bs [] some e = absurd (omega (arith, some))
first_byte b bs (c ∷ cs) some e = grind arith

among : (b : ℕ) (bs : List ℕ) → first_of (b ∷ bs) (signs_with b) ≡ first_sign (b ∷ bs)
unfolding first_sign signs_with
among b bs = found_among (λ s. starts_with nat_eq (b ∷ bs) (sign_text s)) (begins_with b) (λ s e. first_byte b bs (sign_text s) (some_text s) e) signs

-- the longest sign that begins a text is among those that begin with its first byte
pub first_among : (text : List ℕ) (row : List Sign) → 1 ≤ length text → row ≡ signs_with (get_or text 0 0) → first_of text row ≡ first_sign text
first_among [] row some is = absurd (omega (arith, some))
first_among (b ∷ bs) row some is = ap (first_of (b ∷ bs)) is ∙ among b bs

-- no sign begins a text without bytes
pub first_of_none : (text : List ℕ) → length text < 1 → None ≡ first_sign text
unfolding first_sign
first_of_none [] few = refl
first_of_none (b ∷ bs) few = absurd (omega (arith, few))

-- one byte's signs more
pub more_rows : (n : ℕ) (rows : List (List Sign)) (row : List Sign) → rows ≡ map signs_with (range_with_len 0 n) → row ≡ signs_with n → rows ++ row ∷ [] ≡ map signs_with (range_with_len 0 (n + 1))
more_rows n rows row so is = rw (so, is) (sym (map-range_with_len_more signs_with 0 n n (omega arith)))

-- the signs of a byte
pub row_at : {X : Type 0} (items : X → List Sign) (rows : List X) (d : X) (b : ℕ) → map items rows ≡ signs_by_first → b < 256 → b < length rows → items (get_or rows b d) ≡ signs_with b
unfolding signs_by_first
row_at items rows d b all small within = sym (get_or-map items rows b d [] within) ∙ (ap (λ l. get_or l b []) all ∙ get_or-map-range_with_len signs_with 0 256 b b [] small (omega arith))

-- each byte has its signs
pub rows_fit : {X : Type 0} (items : X → List Sign) (rows : List X) → map items rows ≡ signs_by_first → length rows ≡ 256
unfolding signs_by_first
rows_fit items rows all = sym (length-map rows items) ∙ (ap (λ l. length l) all ∙ length-map-range_with_len signs_with 0 256)
