-- The owner of a unit after some moves.
use Rattle.std.proofs.Common.{◌≡◌, ℕ, zero, suc, ◌+◌, ◌<◌, ◌≤◌, ◌==◌, ◌&&◌, Bool, true, false, cond, List, [], ◌∷◌, ◌++◌, length, take, drop, refl, sym, ap, subst, ◌∙◌, arith, append_assoc, length-drop, count_by, sum, find, option_map, unwrap_or, slice_index_or, Some, None}
use Rattle.std.specs.List.{All}
use Rattle.std.proofs.lemmas.Bool.{eqb-true, eq-eqb}
use Rattle.std.proofs.lemmas.List.{take-append-drop, append-nil, take_all, take-append-le, drop-append-le, take_more}
use Rattle.std.proofs.Math.Seq.{take-add}
use Rattle.std.proofs.lemmas.List.Elements.{All-nil, All-cons, All-head, All-tail}
use Rattle.std.proofs.lemmas.List.Sums.{sum_by-cons}
use Rattle.shard_rounds.specs.declared.plan.Move.{Move}
use Rattle.shard_rounds.specs.Rounds.{joined, after_move, after_moves, first_owner}
use Rattle.shard_rounds.specs.Holding.{cut, concerns, AreGiven}

-- how many moves are of a group
pub count_cons : (g : ℕ) (m : Move) (ms : List Move) → count_by (λ x. x.group == g) (m ∷ ms) ≡ cond (m.group == g) 1 0 + count_by (λ x. x.group == g) ms
count_cons g m ms = sum_by-cons (λ x. cond (x.group == g) 1 0) m ms

and_left : (a b : Bool) → (a && b) ≡ true → a ≡ true
and_left true b e = refl
and_left false b e = e

and_right : (a b : Bool) → (a && b) ≡ true → b ≡ true
and_right true b e = e
and_right false b e = absurd (cc)

-- moves in two lists, one after another
pub after_append : (g u p : ℕ) (xs ys : List Move) → after_moves g u p (xs ++ ys) ≡ after_moves g u (after_moves g u p xs) ys
after_append g u p [] ys = refl
after_append g u p (x ∷ xs) ys = after_append g u (after_move g u p x) xs ys

-- an owner is a pipe where the takers are
pub owner_below : (n g u p : ℕ) (ms : List Move) → p < n → All (λ m. m.taker < n) ms → after_moves g u p ms < n
owner_below n g u p [] lt h = lt
owner_below n g u p (m ∷ ms) lt h = owner_below n g u (after_move g u p m) ms (by (concerns g u m)) (All-tail (λ x. x.taker < n) m ms h)
  where
    by : (b : Bool) → cond b m.taker p < n
    by true = All-head (λ x. x.taker < n) m ms h
    by false = lt

-- joined lists
pub joined_append : (xss : List (List Move)) (ys : List Move) → joined (xss ++ ys ∷ []) ≡ joined xss ++ ys
joined_append [] ys = append-nil ys
joined_append (xs ∷ xss) ys = ap (λ (rest : List Move). xs ++ rest) (joined_append xss ys) ∙ sym (append_assoc xs (joined xss) ys)

pub joined_cut : (ns : List ℕ) (log : List Move) → sum ns ≡ length log → joined (cut ns log) ≡ log
joined_cut [] [] e = refl
joined_cut [] (m ∷ log) e = absurd (omega arith)
joined_cut (n ∷ ns) log e =
    let all = sum_by-cons (λ k. k) n ns in
    let rest : joined (cut ns (drop n log)) ≡ drop n log = joined_cut ns (drop n log) (let left = length-drop n log in omega arith) in
    ap (λ (xs : List Move). take n log ++ xs) rest ∙ take-append-drop n log

-- the moves of the first plans
pub joined_take : (e : ℕ) (ns : List ℕ) (log : List Move) → joined (take e (cut ns log)) ≡ take (sum (take e ns)) log
joined_take zero ns log = refl
joined_take (suc e) [] log = refl
joined_take (suc e) (n ∷ ns) log =
    ap (λ (xs : List Move). take n log ++ xs) (joined_take e ns (drop n log)) ∙ sym (take-add n (sum (take e ns)) log) ∙ ap (λ k. take k log) (sym (sum_by-cons (λ k. k) n (take e ns)))

-- one more plan
pub cut_more : (ns : List ℕ) (log ms : List Move) → sum ns ≡ length log → cut (ns ++ length ms ∷ []) (log ++ ms) ≡ cut ns log ++ ms ∷ []
cut_more [] [] ms e = ap (λ (xs : List Move). xs ∷ []) (take_all (length ms) ms (omega arith))
cut_more [] (m ∷ log) ms e = absurd (omega arith)
cut_more (n ∷ ns) log ms e =
    let all = sum_by-cons (λ k. k) n ns in
    let few : n ≤ length log = omega arith in
    let rest = cut_more ns (drop n log) ms (let left = length-drop n log in omega arith) in
    (λ i. take-append-le n log ms few i ∷ cut (ns ++ length ms ∷ []) (drop-append-le n log ms few i)) ∙ ap (λ (xss : List (List Move)). take n log ∷ xss) rest

-- the moves that are given stay so, split anywhere
pub given_front : (n : ℕ) (before xs ys : List Move) → AreGiven n before (xs ++ ys) → AreGiven n (before ++ xs) ys
given_front n before [] ys h = subst (λ (b : List Move). AreGiven n b ys) (sym (append-nil before)) h
given_front n before (x ∷ xs) ys h =
    subst (λ (b : List Move). AreGiven n b ys) (append_assoc before (x ∷ []) xs) (given_front n (before ++ x ∷ []) xs ys h.1)

pub given_more : (n : ℕ) (before xs ys : List Move) → AreGiven n before xs → AreGiven n (before ++ xs) ys → AreGiven n before (xs ++ ys)
given_more n before [] ys h k = subst (λ (b : List Move). AreGiven n b ys) (append-nil before) k
given_more n before (x ∷ xs) ys h k =
    (h.0, given_more n (before ++ x ∷ []) xs ys h.1 (subst (λ (b : List Move). AreGiven n b ys) (sym (append_assoc before (x ∷ []) xs)) k))

-- before some given moves the owner is the giver of the first that moves the unit, or, where there is none, the owner after them
pub owner_back : (n g u now : ℕ) (before ms : List Move) → AreGiven n before ms → after_moves g u (first_owner n g u) (before ++ ms) ≡ now
    → after_moves g u (first_owner n g u) before ≡ unwrap_or (option_map (λ (m : Move). m.giver) (find (concerns g u) ms)) now
owner_back n g u now before [] h e = ap (λ (ms : List Move). after_moves g u (first_owner n g u) ms) (sym (append-nil before)) ∙ e
owner_back n g u now before (m ∷ ms) h e =
    by (owner_back n g u now (before ++ m ∷ []) ms h.1 (ap (λ (xs : List Move). after_moves g u (first_owner n g u) xs) (append_assoc before (m ∷ []) ms) ∙ e)) (concerns g u m) refl
  where
    step : after_moves g u (first_owner n g u) (before ++ m ∷ []) ≡ after_move g u (after_moves g u (first_owner n g u) before) m
    step = after_append g u (first_owner n g u) before (m ∷ [])

    by : after_moves g u (first_owner n g u) (before ++ m ∷ []) ≡ unwrap_or (option_map (λ (x : Move). x.giver) (find (concerns g u) ms)) now
        → (b : Bool) → concerns g u m ≡ b → after_moves g u (first_owner n g u) before ≡ unwrap_or (option_map (λ (x : Move). x.giver) (find (concerns g u) (m ∷ ms))) now
    by rest true f =
        let group : m.group ≡ g = eqb-true m.group g (and_left (m.group == g) (m.unit == u) f) in
        let unit : m.unit ≡ u = eqb-true m.unit u (and_right (m.group == g) (m.unit == u) f) in
        rw f (sym (h.0 ∙ same_unit group unit))
      where
        same_unit : m.group ≡ g → m.unit ≡ u → after_moves m.group m.unit (first_owner n m.group m.unit) before ≡ after_moves g u (first_owner n g u) before
        same_unit group unit = (λ i. after_moves (group i) (unit i) (first_owner n (group i) (unit i)) before)
    by rest false f =
        let kept : after_move g u (after_moves g u (first_owner n g u) before) m ≡ after_moves g u (first_owner n g u) before = rw f refl in
        rw f (sym kept ∙ sym step ∙ rest)

-- the moves of a plan are given by the owners before it, since no group has two
pub plan_given : (n : ℕ) (before ms : List Move) → All (λ m. m.giver ≡ after_moves m.group m.unit (first_owner n m.group m.unit) before) ms
    → ((g : ℕ) → count_by (λ m. m.group == g) ms ≤ 1) → AreGiven n before ms
plan_given n before [] h single = tt
plan_given n before (m ∷ ms) h single = (
  All-head (λ x. x.giver ≡ after_moves x.group x.unit (first_owner n x.group x.unit) before) m ms h,
  plan_given n (before ++ m ∷ []) ms (others ms (All-tail (λ x. x.giver ≡ after_moves x.group x.unit (first_owner n x.group x.unit) before) m ms h) alone)
      (λ g. let less = count_cons g m ms in let one = single g in omega arith),
)
  where
    alone : count_by (λ x. x.group == m.group) ms ≡ 0
    alone =
        let one = single m.group in
        let all : count_by (λ x. x.group == m.group) (m ∷ ms) ≡ 1 + count_by (λ x. x.group == m.group) ms =
        count_cons m.group m ms ∙ ap (λ b. cond b 1 0 + count_by (λ x. x.group == m.group) ms) (eq-eqb m.group m.group refl) in
        omega arith

    others : (xs : List Move) → All (λ x. x.giver ≡ after_moves x.group x.unit (first_owner n x.group x.unit) before) xs → count_by (λ x. x.group == m.group) xs ≡ 0
        → All (λ x. x.giver ≡ after_moves x.group x.unit (first_owner n x.group x.unit) (before ++ m ∷ [])) xs
    others [] k none = All-nil (λ x. x.giver ≡ after_moves x.group x.unit (first_owner n x.group x.unit) (before ++ m ∷ []))
    others (x ∷ xs) k none =
        All-cons (λ y. y.giver ≡ after_moves y.group y.unit (first_owner n y.group y.unit) (before ++ m ∷ [])) x xs
        (All-head (λ y. y.giver ≡ after_moves y.group y.unit (first_owner n y.group y.unit) before) x xs k ∙ sym (unmoved_by (x.group == m.group) refl))
        (others xs (All-tail (λ y. y.giver ≡ after_moves y.group y.unit (first_owner n y.group y.unit) before) x xs k) (let all = count_cons m.group x xs in omega arith))
      where
        unmoved_by : (b : Bool) → (x.group == m.group) ≡ b → after_moves x.group x.unit (first_owner n x.group x.unit) (before ++ m ∷ []) ≡ after_moves x.group x.unit (first_owner n x.group x.unit) before
        unmoved_by true f =
            let all : count_by (λ y. y.group == m.group) (x ∷ xs) ≡ 1 + count_by (λ y. y.group == m.group) xs =
            count_cons m.group x xs ∙ ap (λ b. cond b 1 0 + count_by (λ y. y.group == m.group) xs) f in
            absurd (omega arith)
        unmoved_by false f =
            let apart : (m.group == x.group) ≡ false = grind arith in
            after_append x.group x.unit (first_owner n x.group x.unit) before (m ∷ []) ∙ ap (λ b. cond (b && m.unit == x.unit) m.taker (after_moves x.group x.unit (first_owner n x.group x.unit) before)) apart

-- ---- the first move of a unit

pub concerns_yes : (g u : ℕ) (m : Move) → m.group ≡ g → m.unit ≡ u → concerns g u m ≡ true
concerns_yes g u m a b = rw (eq-eqb m.group g a) (eq-eqb m.unit u b)

pub concerns_no : (g u : ℕ) (m : Move) → (m.group ≡ g → m.unit ≡ u → ⊥) → concerns g u m ≡ false
concerns_no g u m ne = by (concerns g u m) refl
  where
    by : (b : Bool) → concerns g u m ≡ b → concerns g u m ≡ false
    by true e = absurd (ne (eqb-true m.group g (and_left (m.group == g) (m.unit == u) e)) (eqb-true m.unit u (and_right (m.group == g) (m.unit == u) e)))
    by false e = e

pub find_at : (p : Move → Bool) (ms : List Move) (i : ℕ) (d : Move) → i < length ms → find p (take i ms) ≡ None → p (slice_index_or ms i d) ≡ true → find p ms ≡ Some (slice_index_or ms i d)
find_at p [] i d lt none hit = absurd (omega arith)
find_at p (m ∷ ms) zero d lt none hit = rw hit refl
find_at p (m ∷ ms) (suc i) d lt none hit = by (find_at p ms i d (omega arith)) (p m) refl none
  where
    by : (find p (take i ms) ≡ None → p (slice_index_or ms i d) ≡ true → find p ms ≡ Some (slice_index_or ms i d)) → (b : Bool) → p m ≡ b → cond b (Some m) (find p (take i ms)) ≡ None → cond b (Some m) (find p ms) ≡ Some (slice_index_or ms i d)
    by rest true e f = absurd (cc)
    by rest false e f = rest f hit

pub find_skip : (p : Move → Bool) (ms : List Move) (i : ℕ) (d : Move) → i < length ms → find p (take i ms) ≡ None → p (slice_index_or ms i d) ≡ false → find p (take (i + 1) ms) ≡ None
find_skip p ms i d lt none miss = rw (take_more ms i d lt) (more (take i ms) none)
  where
    more : (xs : List Move) → find p xs ≡ None → find p (xs ++ slice_index_or ms i d ∷ []) ≡ None
    more [] f = rw miss refl
    more (x ∷ xs) f = by (more xs) (p x) f
      where
        by : (find p xs ≡ None → find p (xs ++ slice_index_or ms i d ∷ []) ≡ None) → (b : Bool) → cond b (Some x) (find p xs) ≡ None → cond b (Some x) (find p (xs ++ slice_index_or ms i d ∷ [])) ≡ None
        by rest true f' = absurd (cc)
        by rest false f' = rest f'
