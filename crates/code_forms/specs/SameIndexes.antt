-- Touched arrays with one `same` have equal index words.
use Rattle.std.specs.Prelude.{◌≡◌, ℕ, ℤ, List, length, map, true}
use Rattle.std.specs.List.{slice_index_or}
use Rattle.code_forms.specs.declared.flat.Instr.{Instr}
use Rattle.code_forms.specs.declared.flat.FlatArray.{FlatArray}
use Rattle.mp5_words.specs.Domain.{Loads, words}
use Rattle.code_forms.specs.FlatMeaning.{operand_value, flat_values, flat_length, index_operand}
use Rattle.code_forms.specs.FlatValid.{is_touched}

-- the word that the array's Index reduces, on a header and loaded words
abbrev pub index_word : ℕ → List FlatArray → List Instr → Loads → List ℤ → ℕ → ℤ
index_word fields arrays instrs loads header a =
    operand_value ℤ (words (flat_length arrays) loads)
    (flat_values ℤ (words (flat_length arrays) loads) fields arrays instrs header) (index_operand instrs a)

-- the array that stands for all with the same index; past them all the number itself
abbrev pub same_of : List FlatArray → ℕ → ℕ
same_of arrays a = slice_index_or (map (λ (f : FlatArray). f.same) arrays) a a

-- on every header of so many words, and whatever is loaded, touched arrays with one `same` have one index word
abbrev pub SameWords : ℕ → List FlatArray → List Instr → Type 0
SameWords fields arrays instrs =
    (loads : Loads) (header : List ℤ) → length header ≡ fields → (a b : ℕ)
    → is_touched arrays a ≡ true → is_touched arrays b ≡ true → same_of arrays a ≡ same_of arrays b
    → index_word fields arrays instrs loads header a ≡ index_word fields arrays instrs loads header b
