-- Rows of words, one after another in one list.
use Rattle.std.proofs.Common.{◌≡◌, ◌∙◌, ℕ, suc, ◌+◌, ◌*◌, ◌<◌, ◌≤◌, ℤ, pos, List, [], ◌∷◌, ◌++◌, length, take, drop, flat_map, refl, sym, ap, arith}
use Rattle.std.proofs.lemmas.List.{ext_get_or, get_or-take, get_or-drop, length-take-le, length-drop, take-append-drop, take_more, flat_map_more}
use Rattle.mp5_words.specs.Cells.{word_at, cells_at}

no_words : (words : List ℤ) → length words ≡ 0 → words ≡ []
no_words [] e = refl
no_words (w ∷ words) e = absurd (omega (arith, e))

-- the first words are those of the first row
first_row : (width : ℕ) (row words : List ℤ) → length row ≡ width → width ≤ length words → ((f : ℕ) → f < width → word_at words f ≡ word_at row f) → take width words ≡ row
first_row width row words wide enough same =
    let front : length (take width words) ≡ width = length-take-le width words enough in
    ext_get_or (pos 0) (take width words) row (front ∙ sym wide) (λ f less.
    let within : f < width = omega (arith, less, front) in
    get_or-take width words f (pos 0) within ∙ same f within)

-- as many words as rows of one width have, each that of its row, are those of the rows, one row after another
pub rows_flat : (width : ℕ) (rows : List (List ℤ)) (words : List ℤ) → ((t : ℕ) → t < length rows → length (cells_at rows t) ≡ width) → length words ≡ length rows * width
    → ((t f : ℕ) → t < length rows → f < width → word_at words (t * width + f) ≡ word_at (cells_at rows t) f) → words ≡ flat_map (λ row. row) rows
rows_flat width [] words wide long same = no_words words (omega (arith, long))
rows_flat width (row ∷ rows) words wide long same =
    let first : take width words ≡ row = first_row width row words (wide 0 (omega arith)) (omega (arith, long)) (λ f within.
    let place : f ≡ 0 * width + f = omega arith in
    ap (word_at words) place ∙ same 0 f (omega arith) within) in
    let rest : drop width words ≡ flat_map (λ row. row) rows = rows_flat width rows (drop width words) (λ t less. wide (suc t) (omega (arith, less))) (omega (arith, length-drop width words, long)) (λ t f less within.
    let place : width + (t * width + f) ≡ suc t * width + f = omega arith in
    get_or-drop width words (t * width + f) (pos 0) ∙ ap (word_at words) place ∙ same (suc t) f (omega (arith, less)) within) in
    sym (take-append-drop width words) ∙ (λ i. first i ++ rest i)

-- the first rows, one after another, and the next one behind them
pub rows_next : (rows : List (List ℤ)) (a : ℕ) → a < length rows → flat_map (λ row. row) (take (suc a) rows) ≡ flat_map (λ row. row) (take a rows) ++ cells_at rows a
rows_next rows a less =
    let next : suc a ≡ a + 1 = omega arith in
    ap (λ n. flat_map (λ row. row) (take n rows)) next
    ∙ ap (flat_map (λ row. row)) (take_more rows a [] less)
    ∙ sym (flat_map_more (λ row. row) [] (take a rows) (cells_at rows a))

-- and the first words of a row
pub words_next : (row : List ℤ) (n : ℕ) → n < length row → take (suc n) row ≡ take n row ++ word_at row n ∷ []
words_next row n less =
    let next : suc n ≡ n + 1 = omega arith in
    ap (λ k. take k row) next ∙ take_more row n (pos 0) less
