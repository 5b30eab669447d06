-- Where a line of the places stands among all lines.
use Rattle.std.proofs.Common.{◌≡◌, ◌∙◌, ◌<◌, ◌≤◌, ◌+◌, ◌-◌, take, drop, arith, ℕ, zero, suc, ℤ, List, [], ◌∷◌, ◌++◌, length, get_or, slice_index, Some, refl, sym, ap, subst, ne_eqb, Option, None}
use Rattle.std.proofs.lemmas.List.{length-append, append-nil, append_assoc}
use Rattle.std.proofs.lemmas.Option.{slice_get-get_or}
use Rattle.code_forms.specs.Staged.{Staged}
use Rattle.report_text.specs.Report.{done_line}
use Rattle.code_forms.specs.StagedMeaning.{place, place_code}
use Rattle.report_text.specs.PlanLines.{place_line, place_lines, header_lines, arrival_lines}
use Rattle.report_text.specs.PlanReading.{IsLine, number_lines, numbers_lines, ArePlacesOf, later_lines, Reading, IsReading}

-- a line of the front is one of the whole
pub front-line : (a b : List (List ℕ)) (k : ℕ) (text : List ℕ) → IsLine a k text → IsLine (a ++ b) k text
front-line [] b k text is = absurd (omega (arith, is.there))
front-line (l ∷ a) b zero text is = record { there = omega arith; same = is.same }
front-line (l ∷ a) b (suc k) text is =
    let rest = front-line a b k text (record { there = omega (arith, is.there); same = is.same }) in
    record { there = omega (arith, rest.there); same = rest.same }

-- a line of what stands behind it too
pub back-line : (a b : List (List ℕ)) (k : ℕ) (text : List ℕ) → IsLine b k text → IsLine (a ++ b) (length a + k) text
back-line [] b k text is = subst (λ j. IsLine b j text) (let e : k ≡ 0 + k = omega arith in e) is
back-line (l ∷ a) b k text is =
    let rest = back-line a b k text is in
    subst (λ j. IsLine (l ∷ (a ++ b)) j text) (let e : suc (length a + k) ≡ suc (length a) + k = omega arith in e)
    (record { there = omega (arith, rest.there); same = rest.same })

-- the line of a group with a place is the first behind those of the groups before
last-found : (t : ℕ) (places : List ℕ) (g left : ℕ) (text : List ℕ) → (slice_index places g ≡ 0 → ⊥) → left ≡ length (numbers_lines t places g) + 0 → text ≡ place_line t g (slice_index places g - 1)
    → IsLine (numbers_lines t places (suc g)) left text
last-found t places g left text some at is =
    subst (λ j. IsLine (numbers_lines t places (suc g)) j text) (sym at)
    (back-line (numbers_lines t places g) (number_lines t g (slice_index places g)) 0 text
    (rw (ne_eqb (slice_index places g) 0 some) (record { there = omega arith; same = is })))

-- so it is where more groups are behind it
found-from : (m t : ℕ) (places : List ℕ) (g n left : ℕ) (text : List ℕ) → n ≡ m + suc g → (slice_index places g ≡ 0 → ⊥) → left ≡ length (numbers_lines t places g) + 0 → text ≡ place_line t g (slice_index places g - 1)
    → IsLine (numbers_lines t places n) left text
found-from zero t places g n left text e some at is =
    let same : suc g ≡ n = omega (arith, e) in
    subst (λ j. IsLine (numbers_lines t places j) left text) same (last-found t places g left text some at is)
found-from (suc m) t places g n left text e some at is =
    let same : suc (m + suc g) ≡ n = omega (arith, e) in
    subst (λ j. IsLine (numbers_lines t places j) left text) same
    (front-line (numbers_lines t places (m + suc g)) (number_lines t (m + suc g) (slice_index places (m + suc g))) left text
    (found-from m t places g (m + suc g) left text refl some at is))

-- the line that is put is that of the place
pub nth-found : (t : ℕ) (places : List ℕ) (g n left rest : ℕ) (text : List ℕ) → g < n → (slice_index places g ≡ 0 → ⊥) → left ≡ length (numbers_lines t places g) + rest → rest ≡ 0 → text ≡ place_line t g (slice_index places g - 1)
    → IsLine (numbers_lines t places n) left text
nth-found t places g n left rest text h some at none is =
    found-from (n - suc g) t places g n left text (omega (arith, h)) some (omega (arith, at, none)) is

-- ---- arrivals

-- the line of a place as a number
number-is : (t g : ℕ) (p : Option ℕ) → number_lines t g (place_code p) ≡ place_lines t g p
number-is t g None = refl
number-is t g (Some u) = rw (ne_eqb (u + 1) 0 (omega arith)) (ap (λ v. place_line t g v ∷ []) (omega arith))

-- the lines of a header's places as numbers
pub numbers-are : (c : Staged) (t : ℕ) (h : List ℤ) (places : List ℕ) (n : ℕ) → n ≤ 16 → ((g : ℕ) → g < 16 → slice_index places g ≡ place_code (place c h g))
    → numbers_lines t places n ≡ header_lines c t h n
numbers-are c t h places zero few are = refl
numbers-are c t h places (suc n) few are =
    rw (numbers-are c t h places n (omega (arith, few)) are, are n (omega (arith, few)))
    (ap (λ l. header_lines c t h n ++ l) (number-is t n (place c h n)))

-- the lines of the arrivals up to one, and then its own
pub take-next : (c : Staged) (s t n : ℕ) (hs : List (List ℤ)) → t < length hs → n ≡ s + t
    → arrival_lines c s (take (suc t) hs) ≡ arrival_lines c s (take t hs) ++ header_lines c n (get_or hs t []) (length c.groups)
take-next c s t n [] h e = absurd (omega (arith, h))
take-next c s zero n (x ∷ hs) h e =
    append-nil (header_lines c s x (length c.groups)) ∙ ap (λ j. header_lines c j x (length c.groups)) (let q : s ≡ n = omega (arith, e) in q)
take-next c s (suc t) n (x ∷ hs) h e =
    ap (λ l. header_lines c s x (length c.groups) ++ l) (take-next c (s + 1) t n hs (omega (arith, h)) (omega (arith, e)))
    ∙ sym (append_assoc (header_lines c s x (length c.groups)) (arrival_lines c (s + 1) (take t hs)) (header_lines c n (get_or hs t []) (length c.groups)))

-- the lines of the first arrivals, and those of the others
split-lines : (c : Staged) (s t n : ℕ) (hs : List (List ℤ)) → n ≡ s + t → arrival_lines c s hs ≡ arrival_lines c s (take t hs) ++ arrival_lines c n (drop t hs)
split-lines c s zero n hs e = ap (λ j. arrival_lines c j hs) (let q : s ≡ n = omega (arith, e) in q)
split-lines c s (suc t) n [] e = refl
split-lines c s (suc t) n (x ∷ hs) e =
    ap (λ l. header_lines c s x (length c.groups) ++ l) (split-lines c (s + 1) t n hs (omega (arith, e)))
    ∙ sym (append_assoc (header_lines c s x (length c.groups)) (arrival_lines c (s + 1) (take t hs)) (arrival_lines c n (drop t hs)))

-- a line of the first arrivals is one of all lines
later-front : (c : Staged) (t k : ℕ) (hs : List (List ℤ)) (text : List ℕ) → IsLine (arrival_lines c 0 (take t hs)) k text → IsLine (later_lines c hs) k text
later-front c t k hs text is =
    front-line (arrival_lines c 0 hs) (done_line (length hs) ∷ []) k text
    (subst (λ l. IsLine l k text) (sym (split-lines c 0 t t hs (omega arith)))
    (front-line (arrival_lines c 0 (take t hs)) (arrival_lines c t (drop t hs)) k text is))

-- a line of an arrival's places is one of all lines
pub later-found : (c : Staged) (t before k : ℕ) (hs : List (List ℤ)) (places text : List ℕ) → t < length hs → length c.groups ≤ 16 → ArePlacesOf c hs t places
    → before ≡ length (arrival_lines c 0 (take t hs)) → before ≤ k → IsLine (numbers_lines t places (length c.groups)) (k - before) text → IsLine (later_lines c hs) k text
later-found c t before k hs places text h few are counted le is =
    let head = get_or hs t [] in
    let own = subst (λ l. IsLine l (k - before) text) (numbers-are c t head places (length c.groups) few (are head (slice_get-get_or hs t [] h))) is in
    let here = back-line (arrival_lines c 0 (take t hs)) (header_lines c t head (length c.groups)) (k - before) text own in
    let at : length (arrival_lines c 0 (take t hs)) + (k - before) ≡ k = omega (arith, counted, le) in
    later-front c (suc t) k hs text
    (subst (λ j. IsLine (arrival_lines c 0 (take (suc t) hs)) j text) at
    (subst (λ l. IsLine l (length (arrival_lines c 0 (take t hs)) + (k - before)) text) (sym (take-next c 0 t t hs h (omega arith))) here))

-- so many lines are before the next arrival
pub counted-next : (c : Staged) (t before k rest : ℕ) (hs : List (List ℤ)) (places : List ℕ) → t < length hs → length c.groups ≤ 16 → ArePlacesOf c hs t places
    → before ≡ length (arrival_lines c 0 (take t hs)) → before ≤ k → k - before ≡ length (numbers_lines t places (length c.groups)) + rest
    → k - rest ≡ length (arrival_lines c 0 (take (t + 1) hs))
counted-next c t before k rest hs places h few are counted le left =
    let head = get_or hs t [] in
    let own = ap length (numbers-are c t head places (length c.groups) few (are head (slice_get-get_or hs t [] h))) in
    let all = ap length (take-next c 0 t t hs h (omega arith)) ∙ length-append (arrival_lines c 0 (take t hs)) (header_lines c t head (length c.groups)) in
    let next : suc t ≡ t + 1 = omega arith in
    subst (λ j. k - rest ≡ length (arrival_lines c 0 (take j hs))) next (omega (arith, own, all, counted, le, left))

-- a line that is put at the arrival where the reading stands is one of all lines
pub found-here : (r : Reading) (k : ℕ) (text : List ℕ) → IsReading r → r.arrival < length r.headers → r.before ≤ k
    → IsLine (numbers_lines r.arrival r.places (length r.code.groups)) (k - r.before) text → IsLine (later_lines r.code r.headers) k text
found-here r k text is there le line = later-found r.code r.arrival r.before k r.headers r.places text there (is.few there) is.places is.counted le line

-- so many lines are before the next arrival
pub next-here : (r : Reading) (k rest : ℕ) → IsReading r → r.arrival < length r.headers → r.before ≤ k → k - r.before ≡ length (numbers_lines r.arrival r.places (length r.code.groups)) + rest
    → k - rest ≡ length (arrival_lines r.code 0 (take (r.arrival + 1) r.headers))
next-here r k rest is there le left = counted-next r.code r.arrival r.before k rest r.headers r.places there (is.few there) is.places is.counted le left
