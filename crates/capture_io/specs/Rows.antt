-- A list of words as rows of one width.
use Rattle.std.specs.Prelude.{ℕ, zero, suc, ℤ, List, [], ◌∷◌, take, drop}

-- the first n rows of so many words each
abbrev pub rows : ℕ → ℕ → List ℤ → List (List ℤ)
rows zero width words = []
rows (suc n) width words = take width words ∷ rows n width (drop width words)
