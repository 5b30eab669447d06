-- Words in lists: the fields of a packet, the cells of register arrays, and the arrays that are touched.
use Rattle.std.specs.Prelude.{ℕ, ℤ, pos, negsuc, Bool, true, false, ◌+◌, ◌*◌, if◌then◌else◌, List, [], ◌∷◌, slice_set}
use Rattle.std.specs.List.{fold, slice_index_or}
use Rattle.mp5_words.specs.Words.{truth, hash}
use Rattle.mp5_words.specs.declared.hashing.HashKind.{HashKind}

-- ---- words

-- the word at a place; 0 past them all
abbrev pub word_at : List ℤ → ℕ → ℤ
word_at words place = slice_index_or words place (pos 0)

-- the first word where the condition is true, else the second
abbrev pub picked : ℤ → ℤ → ℤ → ℤ
picked c a b = if truth c then a else b

-- a word as a count; none below 0
abbrev pub natural : ℤ → ℕ
natural (pos n) = n
natural (negsuc n) = 0

-- the hash of the arguments, of which only the first three count
abbrev pub hash_all : HashKind → List ℤ → ℤ
hash_all kind args = hash kind (word_at args 0) (word_at args 1) (word_at args 2)

-- ---- cells

-- the cells of an array
abbrev pub cells_at : List (List ℤ) → ℕ → List ℤ
cells_at cells array = slice_index_or cells array []

-- the cells of the arrays after a cell is given a word
abbrev pub cell_set : List (List ℤ) → ℕ → ℕ → ℤ → List (List ℤ)
cell_set cells array place z = slice_set cells array (slice_set (cells_at cells array) place z)

-- ---- sets of arrays

-- the marks of the arrays after these are touched too
abbrev pub touching : List ℕ → List Bool → List Bool
touching arrays touched = fold (λ (marks : List Bool) (array : ℕ). slice_set marks array true) touched arrays

-- a set of arrays as a number: bit a for array a
abbrev pub bits : List Bool → ℕ
bits [] = 0
bits (true ∷ marks) = 1 + 2 * bits marks
bits (false ∷ marks) = 2 * bits marks
