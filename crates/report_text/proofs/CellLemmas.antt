-- The reading of the cells: where it begins, and what a step leaves.
use Rattle.std.proofs.Common.{◌≡◌, ◌∙◌, ◌<◌, ◌≤◌, ◌+◌, ◌-◌, take, drop, arith, ℕ, suc, ℤ, pos, Bool, true, false, not, List, [], ◌∷◌, ◌++◌, length, get_or, refl, sym, ap, subst}
use Rattle.std.proofs.Math.Seq.{drop-cons}
use Rattle.std.proofs.lemmas.List.{append_assoc, drop_all}
use Rattle.std.proofs.lemmas.List.Sums.{sum_by-cons}
use Rattle.std.specs.Ordering.{int_eq}
use Rattle.mp5_words.specs.Cells.{word_at}
use Rattle.domino_names.specs.declared.infos.ArrayInfo.{ArrayInfo}
use Rattle.report_text.specs.Report.{cell_name, register_line, cell_line, cell_lines, cell_count}
use Rattle.report_text.specs.PlanReading.{IsLine}
use Rattle.report_text.specs.Told.{cells_told, cells_left, words_left, IsCell, IsAtCell}
use Rattle.report_text.proofs.PartLemmas.{drop-first, drop-none}

-- from the first cell of an array all lines are left
left-all : (infos : List ArrayInfo) (words : List ℤ) → cells_left infos 0 words ≡ cells_told infos words
left-all [] words = refl
left-all (i ∷ infos) words =
    let whole : i.length - 0 ≡ i.length = omega arith in
    ap (λ n. cell_lines i 0 (take n words) ++ cells_told infos (drop n words)) whole

words-all : (infos : List ArrayInfo) → words_left infos 0 ≡ cell_count infos
words-all [] = refl
words-all (i ∷ infos) =
    let whole : i.length - 0 ≡ i.length = omega arith in
    ap (λ n. n + cell_count infos) whole ∙ sym (sum_by-cons (λ (x : ArrayInfo). x.length) i infos)

first-cell : (infos : List ArrayInfo) → IsCell infos 0
first-cell [] = tt
first-cell (i ∷ infos) = omega arith

-- the reading begins at the first cell
pub at-start : (infos : List ArrayInfo) (words : List ℤ) → length words ≡ cell_count infos → IsAtCell infos words 0 0 0 0
at-start infos words long = record {
  inside = omega arith;
  within = first-cell infos;
  enough = let all : words_left infos 0 ≡ cell_count infos = words-all infos in omega (arith, long, all);
  counted = omega arith;
  left = sym (left-all infos words);
}

-- what is left behind the last cell of an array are the lines of the next ones
array-left : (i : ArrayInfo) (infos : List ArrayInfo) (cell : ℕ) (words : List ℤ) → cell ≡ i.length → cells_left (i ∷ infos) cell words ≡ cells_left infos 0 words
array-left i infos cell words end =
    let none : i.length - cell ≡ 0 = omega (arith, end) in
    ap (λ n. cell_lines i cell (take n words) ++ cells_told infos (drop n words)) none ∙ sym (left-all infos words)

-- what is left from a cell on: its line and the others
cell-left : (i : ArrayInfo) (infos : List ArrayInfo) (cell : ℕ) (word : ℤ) (words : List ℤ) → cell < i.length
    → cells_left (i ∷ infos) cell (word ∷ words) ≡ cell_line i cell word ++ cells_left (i ∷ infos) (cell + 1) words
cell-left i infos cell word words less =
    let more : i.length - cell ≡ suc (i.length - (cell + 1)) = omega (arith, less) in
    let m : ℕ = i.length - (cell + 1) in
    ap (λ n. cell_lines i cell (take n (word ∷ words)) ++ cells_told infos (drop n (word ∷ words))) more
    ∙ append_assoc (cell_line i cell word) (cell_lines i (cell + 1) (take m words)) (cells_told infos (drop m words))

module _ (infos : List ArrayInfo) (words : List ℤ) (array cell at before : ℕ) (info : ArrayInfo) (is : IsAtCell infos words array cell at before) (there : array < length infos) (info_is : info ≡ get_or infos array info) where
  -- the array and those behind it
  split : drop array infos ≡ info ∷ drop (array + 1) infos
  split =
      let next : suc array ≡ array + 1 = omega arith in
      drop-cons infos array info there ∙ ap (λ i. i ∷ drop (suc array) infos) (sym info_is) ∙ ap (λ n. info ∷ drop n infos) next

  -- behind the last cell of an array comes the next array
  pub next-array : cell ≡ info.length → IsAtCell infos words (array + 1) 0 at before
  next-array end = record {
    inside = omega (arith, there);
    within = first-cell (drop (array + 1) infos);
    enough =
        let all : words_left (drop (array + 1) infos) 0 ≡ cell_count (drop (array + 1) infos) = words-all (drop (array + 1) infos) in
        let here : at + ((info.length - cell) + cell_count (drop (array + 1) infos)) ≡ length words = subst (λ l. at + words_left l cell ≡ length words) split is.enough in
        omega (arith, all, here, end);
    counted = is.counted;
    left = is.left ∙ ap (λ l. cells_left l cell (drop at words)) split ∙ array-left info (drop (array + 1) infos) cell (drop at words) end;
  }

  -- else there is a word of the cell
  pub has-cell : (cell ≡ info.length → ⊥) → cell < info.length
  has-cell other = let low : cell ≤ info.length = subst (λ l. IsCell l cell) split is.within in omega (arith, low, other)

  pub has-word : (cell ≡ info.length → ⊥) → at < length words
  has-word other =
      let here : at + ((info.length - cell) + cell_count (drop (array + 1) infos)) ≡ length words = subst (λ l. at + words_left l cell ≡ length words) split is.enough in
      omega (arith, here, has-cell other)

  module _ (other : cell ≡ info.length → ⊥) where
    abbrev word : ℤ
    word = word_at words at

    -- the lines that are left, with that of the cell
    with-line : cells_left (drop array infos) cell (drop at words) ≡ cell_line info cell word ++ cells_left (drop array infos) (cell + 1) (drop (at + 1) words)
    with-line =
        let next : suc at ≡ at + 1 = omega arith in
        let tail : drop at words ≡ word ∷ drop (at + 1) words = drop-cons words at (pos 0) (has-word other) ∙ ap (λ n. word ∷ drop n words) next in
        ap (λ l. cells_left l cell (drop at words)) split
        ∙ ap (cells_left (info ∷ drop (array + 1) infos) cell) tail
        ∙ cell-left info (drop (array + 1) infos) cell word (drop (at + 1) words) (has-cell other)
        ∙ ap (λ l. cell_line info cell word ++ cells_left l (cell + 1) (drop (at + 1) words)) (sym split)

    -- the reading stands at the next cell, behind so many lines
    stepped : (n : ℕ) → n ≤ length (cells_told infos words) → drop n (cells_told infos words) ≡ cells_left (drop array infos) (cell + 1) (drop (at + 1) words) → IsAtCell infos words array (cell + 1) (at + 1) n
    stepped n few left = record {
      inside = is.inside;
      within = subst (λ l. IsCell l (cell + 1)) (sym split) (let low : cell < info.length = has-cell other in omega (arith, low));
      enough =
          let here : at + ((info.length - cell) + cell_count (drop (array + 1) infos)) ≡ length words = subst (λ l. at + words_left l cell ≡ length words) split is.enough in
          let low : cell < info.length = has-cell other in
          subst (λ l. (at + 1) + words_left l (cell + 1) ≡ length words) (sym split) (omega (arith, here, low));
      counted = few;
      left = left;
    }

    -- a cell at its start value has no line
    pub next-cell : int_eq word info.start ≡ true → IsAtCell infos words array (cell + 1) (at + 1) before
    next-cell same =
        let none : cell_line info cell word ≡ [] = rw same refl in
        stepped before is.counted (is.left ∙ with-line ∙ ap (λ l. l ++ cells_left (drop array infos) (cell + 1) (drop (at + 1) words)) none)

    -- the next line is that of another cell
    here-first : int_eq word info.start ≡ false
        → drop before (cells_told infos words) ≡ register_line (cell_name info cell) word ∷ cells_left (drop array infos) (cell + 1) (drop (at + 1) words)
    here-first differs =
        let one : cell_line info cell word ≡ register_line (cell_name info cell) word ∷ [] = rw differs refl in
        is.left ∙ with-line ∙ ap (λ l. l ++ cells_left (drop array infos) (cell + 1) (drop (at + 1) words)) one

    pub next-line : int_eq word info.start ≡ false → IsAtCell infos words array (cell + 1) (at + 1) (before + 1)
    next-line differs =
        let all = drop-first before (cells_told infos words) (cells_left (drop array infos) (cell + 1) (drop (at + 1) words)) (register_line (cell_name info cell) word) (here-first differs) in
        let low : before < length (cells_told infos words) = all.0 in
        let next : suc before ≡ before + 1 = omega arith in
        stepped (before + 1) (omega (arith, low)) (ap (λ n. drop n (cells_told infos words)) (sym next) ∙ all.2)

    pub line-here : (k : ℕ) (text : List ℕ) → int_eq word info.start ≡ false → k ≡ before → text ≡ register_line (cell_name info cell) word → IsLine (cells_told infos words) k text
    line-here k text differs at_k text_is =
        let all = drop-first before (cells_told infos words) (cells_left (drop array infos) (cell + 1) (drop (at + 1) words)) (register_line (cell_name info cell) word) (here-first differs) in
        subst (λ j. IsLine (cells_told infos words) j text) (sym at_k) (record { there = all.0; same = text_is ∙ all.1 })

-- behind the last array all lines are passed
pub all-passed : (infos : List ArrayInfo) (words : List ℤ) (array cell at before : ℕ) → IsAtCell infos words array cell at before → length infos ≤ array → before ≡ length (cells_told infos words)
all-passed infos words array cell at before is end =
    let none : cells_left (drop array infos) cell (drop at words) ≡ [] = ap (λ l. cells_left l cell (drop at words)) (drop_all array infos end) in
    drop-none before (cells_told infos words) is.counted (is.left ∙ none)

-- what a test of the opposite tells
pub is-false : (r b : Bool) → r ≡ not b → r ≡ true → b ≡ false
is-false r false e t = refl
is-false r true e t = absurd (cc)

pub is-true : (r b : Bool) → r ≡ not b → r ≡ false → b ≡ true
is-true r true e f = refl
is-true r false e f = absurd (cc)
