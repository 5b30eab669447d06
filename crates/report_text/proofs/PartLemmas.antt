-- Lines of parts: where a line of a part stands among all lines, and what is left behind it.
use Rattle.std.proofs.Common.{◌≡◌, ◌<◌, ◌≤◌, ◌+◌, drop, arith, ℕ, zero, suc, List, [], ◌∷◌, ◌++◌, length, refl, sym, subst}
use Rattle.std.proofs.lemmas.List.{length-append}
use Rattle.report_text.specs.PlanReading.{IsLine, IsBehind, line_at}
use Rattle.report_text.specs.AnswerLines.{lines_below}
use Rattle.report_text.proofs.PlanLemmas.{front-line, back-line}

-- ---- two parts

-- a line that is put of the last part is one of both
pub last-there : (a b : List (List ℕ)) (k left : ℕ) (text : List ℕ) → k ≡ length a + left → IsLine b left text → IsLine (a ++ b) k text
last-there a b k left text passed is = subst (λ j. IsLine (a ++ b) j text) (sym passed) (back-line a b left text is)

-- and there is none of both where there is none of the last part
pub last-behind : (a b : List (List ℕ)) (k left : ℕ) (text : List ℕ) → k ≡ length a + left → IsBehind b left text → IsBehind (a ++ b) k text
last-behind a b k left text passed is =
    let all : length (a ++ b) ≡ length a + length b = length-append a b in
    let past : length b ≤ left = is.past in
    record { past = omega (arith, passed, past, all); empty = is.empty }

-- ---- what stands behind some lines

-- the first of them
pub drop-first : (n : ℕ) (xs ys : List (List ℕ)) (x : List ℕ) → drop n xs ≡ x ∷ ys → (n < length xs) × (x ≡ line_at xs n) × (drop (suc n) xs ≡ ys)
drop-first zero [] ys x e = absurd (cc)
drop-first zero (z ∷ xs) ys x e =
    let first : z ≡ x = cc in
    let rest : xs ≡ ys = cc in
    (omega arith, sym first, rest)
drop-first (suc n) [] ys x e = absurd (cc)
drop-first (suc n) (z ∷ xs) ys x e =
    let more = drop-first n xs ys x e in
    let less : n < length xs = more.0 in
    (omega (arith, less), more.1, more.2)

-- and none where there is none
pub drop-none : (n : ℕ) (xs : List (List ℕ)) → n ≤ length xs → drop n xs ≡ [] → n ≡ length xs
drop-none zero [] le e = refl
drop-none zero (x ∷ xs) le e = absurd (cc)
drop-none (suc n) [] le e = absurd (omega (arith, le))
drop-none (suc n) (x ∷ xs) le e = let same : n ≡ length xs = drop-none n xs (omega (arith, le)) e in omega (arith, same)

-- ---- lines for each number

-- the line of a number is one of those below a greater one
pub below-found : (f : ℕ → List (List ℕ)) (m i n k : ℕ) (text : List ℕ) → n ≡ m + suc i → f i ≡ text ∷ [] → k ≡ length (lines_below f i) → IsLine (lines_below f n) k text
below-found f zero i n k text e line at =
    let same : suc i ≡ n = omega (arith, e) in
    let here : length (lines_below f i) + 0 ≡ k = omega (arith, at) in
    subst (λ j. IsLine (lines_below f j) k text) same
    (subst (λ j. IsLine (lines_below f i ++ f i) j text) here
    (back-line (lines_below f i) (f i) 0 text (subst (λ l. IsLine l 0 text) (sym line) (record { there = omega arith; same = refl }))))
below-found f (suc m) i n k text e line at =
    let same : suc (m + suc i) ≡ n = omega (arith, e) in
    subst (λ j. IsLine (lines_below f j) k text) same
    (front-line (lines_below f (m + suc i)) (f (m + suc i)) k text (below-found f m i (m + suc i) k text refl line at))

-- it is passed
pub below-passed : (f : ℕ → List (List ℕ)) (i before n : ℕ) → before ≡ length (lines_below f i) → length (f i) ≡ n → before + n ≡ length (lines_below f (i + 1))
below-passed f i before n at line =
    let next : suc i ≡ i + 1 = omega arith in
    let all : length (lines_below f i ++ f i) ≡ length (lines_below f i) + length (f i) = length-append (lines_below f i) (f i) in
    let sum : before + n ≡ length (lines_below f (suc i)) = omega (arith, at, line, all) in
    subst (λ j. before + n ≡ length (lines_below f j)) next sum
