-- The lines of the whole text, part by part.
use Rattle.std.proofs.Common.{◌≡◌, ◌∙◌, ◌<◌, ◌≤◌, ◌+◌, ◌-◌, ◌==◌, Bool, true, false, arith, ℕ, zero, suc, List, [], ◌∷◌, length, ap, refl, subst}
use Rattle.std.proofs.lemmas.List.{length-append}
use Rattle.std.specs.Bool.{OnTrue, OnFalse}
use Rattle.code_forms.specs.Staged.{Staged}
use Rattle.domino_tree.specs.Text.{text_of}
use Rattle.domino_names.specs.declared.infos.ArrayInfo.{ArrayInfo}
use Rattle.domino_names.specs.Infos.{infos_of}
use Rattle.report_text.specs.PlanLines.{before, lines_of, code_line, group_line, group_lines, head_lines}
use Rattle.report_text.specs.PlanReading.{Planned, lines_in, line_at, IsLine, IsBehind, later_lines}
use Rattle.report_text.proofs.PlanLemmas.{front-line, back-line}

-- a byte makes a line one byte longer
before-short : (b n : ℕ) (ls : List (List ℕ)) (k : ℕ) → ((j : ℕ) → length (line_at ls j) ≤ n) → length (line_at (before b ls) k) ≤ n + 1
before-short b n [] zero all = omega arith
before-short b n [] (suc k) all = omega arith
before-short b n (l ∷ ls) zero all = omega (arith, all 0)
before-short b n (l ∷ ls) (suc k) all = omega (arith, all (suc k))

-- after a line of one byte come lines that are no longer
after-short : (b n : ℕ) (ls : List (List ℕ)) (k : ℕ) → ((j : ℕ) → length (line_at ls j) ≤ n) → length (line_at ((b ∷ []) ∷ ls) k) ≤ n + 1
after-short b n ls zero all = omega arith
after-short b n ls (suc k) all = omega (arith, all k)

-- a byte in front makes each line at most one byte longer
one-short : (b : ℕ) (bs : List ℕ) (k : ℕ) → ((j : ℕ) → length (line_at (lines_of bs) j) ≤ length bs) → (q : Bool) → (b == 10) ≡ q → length (line_at (lines_of (b ∷ bs)) k) ≤ length (b ∷ bs)
one-short b bs k all true e = rw e (omega (arith, after-short b (length bs) (lines_of bs) k all))
one-short b bs k all false e = rw e (omega (arith, before-short b (length bs) (lines_of bs) k all))

-- no line of a text is longer than the text
pub line-short : (text : List ℕ) (k : ℕ) → length (line_at (lines_of text) k) ≤ length text
line-short [] k = omega arith
line-short (b ∷ bs) k = one-short b bs k (line-short bs) (b == 10) refl

-- there are as many lines as groups
pub groups-long : (infos : List ArrayInfo) (c : Staged) (n : ℕ) → length (group_lines infos c n) ≡ n
groups-long infos c zero = refl
groups-long infos c (suc n) = length-append (group_lines infos c n) (group_line infos c n ∷ []) ∙ (let e = groups-long infos c n in omega (arith, e))

-- the line of a group
pub group-found : (m : ℕ) (infos : List ArrayInfo) (c : Staged) (g n : ℕ) (text : List ℕ) → n ≡ m + suc g → text ≡ group_line infos c g → IsLine (group_lines infos c n) g text
group-found zero infos c g n text e is =
    let same : suc g ≡ n = omega (arith, e) in
    let at : length (group_lines infos c g) + 0 ≡ g = omega (arith, groups-long infos c g) in
    subst (λ j. IsLine (group_lines infos c j) g text) same
    (subst (λ j. IsLine (group_lines infos c (suc g)) j text) at
    (back-line (group_lines infos c g) (group_line infos c g ∷ []) 0 text (record { there = omega arith; same = is })))
group-found (suc m) infos c g n text e is =
    let same : suc (m + suc g) ≡ n = omega (arith, e) in
    subst (λ j. IsLine (group_lines infos c j) g text) same
    (front-line (group_lines infos c (m + suc g)) (group_line infos c (m + suc g) ∷ []) g text (group-found m infos c g (m + suc g) text refl is))

-- a line of the canonical text is one of the whole
pub whole-found : (p : Planned) (k : ℕ) (text : List ℕ) → IsLine (lines_of (text_of p.program)) k text → IsLine (lines_in p) k text
whole-found p k text is =
    front-line (head_lines p.program p.code) (later_lines p.code p.headers) k text
    (front-line (lines_of (text_of p.program)) (code_line p.code ∷ group_lines (infos_of p.program) p.code (length p.code.groups)) k text is)

-- so is that of the code, which comes next
pub code-found : (p : Planned) (k : ℕ) (text : List ℕ) → k ≡ length (lines_of (text_of p.program)) → text ≡ code_line p.code → IsLine (lines_in p) k text
code-found p k text at is =
    let back = code_line p.code ∷ group_lines (infos_of p.program) p.code (length p.code.groups) in
    let same : length (lines_of (text_of p.program)) + 0 ≡ k = omega (arith, at) in
    front-line (head_lines p.program p.code) (later_lines p.code p.headers) k text
    (subst (λ j. IsLine (head_lines p.program p.code) j text) same
    (back-line (lines_of (text_of p.program)) back 0 text (record { there = omega arith; same = is })))

-- and that of each group
pub group-line-found : (p : Planned) (k g : ℕ) (text : List ℕ) → k ≡ length (lines_of (text_of p.program)) + (g + 1) → g < length p.code.groups → text ≡ group_line (infos_of p.program) p.code g → IsLine (lines_in p) k text
group-line-found p k g text at h is =
    let n = length p.code.groups in
    let groups = group_lines (infos_of p.program) p.code n in
    let own = group-found (n - suc g) (infos_of p.program) p.code g n text (omega (arith, h)) is in
    let same : length (lines_of (text_of p.program)) + suc g ≡ k = omega (arith, at) in
    front-line (head_lines p.program p.code) (later_lines p.code p.headers) k text
    (subst (λ j. IsLine (head_lines p.program p.code) j text) same
    (back-line (lines_of (text_of p.program)) (code_line p.code ∷ groups) (suc g) text (record { there = omega (arith, own.there); same = own.same })))

-- how many lines stand before those of the places
pub head-long : (p : Planned) → length (head_lines p.program p.code) ≡ length (lines_of (text_of p.program)) + (length p.code.groups + 1)
head-long p =
    let n = length p.code.groups in
    length-append (lines_of (text_of p.program)) (code_line p.code ∷ group_lines (infos_of p.program) p.code n)
    ∙ (let e = groups-long (infos_of p.program) p.code n in omega (arith, e))

-- and each line behind them
pub later-line-found : (p : Planned) (k j : ℕ) (text : List ℕ) → k ≡ length (lines_of (text_of p.program)) + (length p.code.groups + 1) + j → IsLine (later_lines p.code p.headers) j text → IsLine (lines_in p) k text
later-line-found p k j text at is =
    let same : length (head_lines p.program p.code) + j ≡ k = omega (arith, at, head-long p) in
    subst (λ i. IsLine (lines_in p) i text) same (back-line (head_lines p.program p.code) (later_lines p.code p.headers) j text is)

-- nothing is behind all lines
pub later-line-behind : (p : Planned) (k j : ℕ) (text : List ℕ) → k ≡ length (lines_of (text_of p.program)) + (length p.code.groups + 1) + j → IsBehind (later_lines p.code p.headers) j text → IsBehind (lines_in p) k text
later-line-behind p k j text at is =
    let all = length-append (head_lines p.program p.code) (later_lines p.code p.headers) in
    record { past = omega (arith, at, all, head-long p, is.past); empty = is.empty }

-- ---- as the parts are put

-- the line of a group is put
pub group-put : (p : Planned) (k head groups g : ℕ) (infos : List ArrayInfo) (text : List ℕ) → infos ≡ infos_of p.program → head ≡ length (lines_of (text_of p.program)) → groups ≡ length p.code.groups
    → head ≤ k → (k ≡ head → ⊥) → k - head ≤ groups → g ≡ k - head - 1 → text ≡ group_line infos p.code g → IsLine (lines_in p) k text
group-put p k head groups g infos text same first many le other few at is =
    group-line-found p k g text (omega (arith, first, le, other, at)) (omega (arith, many, le, other, few, at))
    (is ∙ ap (λ i. group_line i p.code g) same)

-- a later line is put
pub later-put : (p : Planned) (k head groups j : ℕ) (c : Staged) (text : List ℕ) → c ≡ p.code → head ≡ length (lines_of (text_of p.program)) → groups ≡ length p.code.groups
    → head ≤ k → (k ≡ head → ⊥) → groups < k - head → j ≡ k - head - groups - 1 → IsLine (later_lines c p.headers) j text → IsLine (lines_in p) k text
later-put p k head groups j c text same first many le other past at is =
    later-line-found p k j text (omega (arith, first, many, le, other, past, at)) (subst (λ d. IsLine (later_lines d p.headers) j text) same is)

-- there is no later line
pub none-put : (p : Planned) (k head groups j : ℕ) (c : Staged) (text : List ℕ) → c ≡ p.code → head ≡ length (lines_of (text_of p.program)) → groups ≡ length p.code.groups
    → head ≤ k → (k ≡ head → ⊥) → groups < k - head → j ≡ k - head - groups - 1 → IsBehind (later_lines c p.headers) j text → IsBehind (lines_in p) k text
none-put p k head groups j c text same first many le other past at is =
    later-line-behind p k j text (omega (arith, first, many, le, other, past, at)) (subst (λ d. IsBehind (later_lines d p.headers) j text) same is)

-- what a test tells, where more follows from it
pub on-true : {P Q : Type 0} (b : Bool) → (P → Q) → OnTrue b P → OnTrue b Q
on-true true f is = f is
on-true false f is = is

pub on-false : {P Q : Type 0} (b : Bool) → (P → Q) → OnFalse b P → OnFalse b Q
on-false true f is = is
on-false false f is = f is
