-- The signs by their first byte.
use Rattle.std.specs.Prelude.{ℕ, Bool, List, [], ◌∷◌, map, filter, nat_eq, Option}
use Rattle.std.specs.List.{find, starts_with, range_with_len}
use Rattle.domino_tree.specs.declared.token.Sign.{Sign}
use Rattle.domino_tree.specs.Operators.{sign_text, signs}

-- whether a sign begins with a byte
abbrev pub begins_with : ℕ → Sign → Bool
begins_with first s = starts_with nat_eq (sign_text s) (first ∷ [])

-- the first of some signs that begins a text
abbrev pub first_of : List ℕ → List Sign → Option Sign
first_of text = find (λ s. starts_with nat_eq text (sign_text s))

-- the signs that begin with a byte, in the order of the table
unfoldable pub signs_with : ℕ → List Sign
signs_with first = filter (begins_with first) signs

-- for each byte the signs that begin with it
unfoldable pub signs_by_first : List (List Sign)
signs_by_first = map signs_with (range_with_len 0 256)
