-- The lines of a text, and where one of them stands.
use Rattle.std.proofs.Common.{◌≡◌, ◌∙◌, ◌<◌, ◌≤◌, ◌+◌, take, drop, arith, ℕ, List, [], ◌∷◌, ◌++◌, length, get_or, ◌==◌, true, false, refl, sym, ap, subst}
use Rattle.std.proofs.lemmas.List.{take_more, drop_more, take_all, drop_all}
use Rattle.report_text.specs.PlanLines.{before, lines_of}

-- bytes before the lines of a text
abbrev pub all_before : List ℕ → List (List ℕ) → List (List ℕ)
all_before [] ls = ls
all_before (b ∷ bs) ls = before b (all_before bs ls)

-- one byte more
pub before-next : (bs : List ℕ) (b : ℕ) (ls : List (List ℕ)) → all_before (bs ++ (b ∷ [])) ls ≡ all_before bs (before b ls)
before-next [] b ls = refl
before-next (x ∷ bs) b ls = ap (before x) (before-next bs b ls)

-- bytes before a first line
pub before-line : (bs l : List ℕ) (ls : List (List ℕ)) → all_before bs (l ∷ ls) ≡ (bs ++ l) ∷ ls
before-line [] l ls = refl
before-line (x ∷ bs) l ls = ap (before x) (before-line bs l ls)

-- bytes alone are a line
pub before-nothing : (b : ℕ) (bs : List ℕ) → all_before (b ∷ bs) [] ≡ (b ∷ bs) ∷ []
before-nothing b [] = refl
before-nothing b (x ∷ bs) = ap (before b) (before-nothing x bs)

-- a newline ends a line
newline : (b : ℕ) (bs : List ℕ) → (b == 10) ≡ true → lines_of (b ∷ bs) ≡ (b ∷ []) ∷ lines_of bs
newline b bs e = rw e refl

-- another byte doesn't
other : (b : ℕ) (bs : List ℕ) → (b == 10) ≡ false → lines_of (b ∷ bs) ≡ before b (lines_of bs)
other b bs e = rw e refl

-- the first line ends at the first newline
pub line-ends : (text : List ℕ) (i : ℕ) → i < length text → (get_or text i 0 == 10) ≡ true → lines_of text ≡ all_before (take i text) (lines_of (drop i text))
    → lines_of text ≡ take (i + 1) text ∷ lines_of (drop (i + 1) text)
line-ends text i h e so_far =
    so_far
    ∙ ap (λ d. all_before (take i text) (lines_of d)) (drop_more text i 0 h)
    ∙ ap (all_before (take i text)) (newline (get_or text i 0) (drop (i + 1) text) e)
    ∙ before-line (take i text) (get_or text i 0 ∷ []) (lines_of (drop (i + 1) text))
    ∙ ap (λ l. l ∷ lines_of (drop (i + 1) text)) (sym (take_more text i 0 h))

-- it goes on behind another byte
pub line-more : (text : List ℕ) (i : ℕ) → i < length text → (get_or text i 0 == 10) ≡ false → lines_of text ≡ all_before (take i text) (lines_of (drop i text))
    → lines_of text ≡ all_before (take (i + 1) text) (lines_of (drop (i + 1) text))
line-more text i h e so_far =
    so_far
    ∙ ap (λ d. all_before (take i text) (lines_of d)) (drop_more text i 0 h)
    ∙ ap (all_before (take i text)) (other (get_or text i 0) (drop (i + 1) text) e)
    ∙ sym (before-next (take i text) (get_or text i 0) (lines_of (drop (i + 1) text)))
    ∙ ap (λ t. all_before t (lines_of (drop (i + 1) text))) (sym (take_more text i 0 h))

-- a text without newline is a line
whole : (text : List ℕ) → 0 < length text → lines_of text ≡ all_before (take (length text) text) (lines_of (drop (length text) text))
    → lines_of text ≡ take (length text) text ∷ lines_of (drop (length text) text)
whole [] h so_far = absurd (omega arith)
whole (b ∷ bs) h so_far =
    so_far
    ∙ ap (λ d. all_before (take (length (b ∷ bs)) (b ∷ bs)) (lines_of d)) (drop_all (length (b ∷ bs)) (b ∷ bs) (omega arith))
    ∙ ap (λ t. all_before t []) (take_all (length (b ∷ bs)) (b ∷ bs) (omega arith))
    ∙ before-nothing b bs
    ∙ ap (λ t. t ∷ []) (sym (take_all (length (b ∷ bs)) (b ∷ bs) (omega arith)))
    ∙ ap (λ d. take (length (b ∷ bs)) (b ∷ bs) ∷ lines_of d) (sym (drop_all (length (b ∷ bs)) (b ∷ bs) (omega arith)))

-- so it is where the bytes so far are all
pub line-whole : (text : List ℕ) (i : ℕ) → 0 < length text → i ≤ length text → length text ≤ i → lines_of text ≡ all_before (take i text) (lines_of (drop i text))
    → lines_of text ≡ take (length text) text ∷ lines_of (drop (length text) text)
line-whole text i h le ge so_far =
    let e : i ≡ length text = omega (arith, le, ge) in
    whole text h (subst (λ j. lines_of text ≡ all_before (take j text) (lines_of (drop j text))) e so_far)
