-- How many packets there are of each home, and in all.
use Rattle.std.proofs.Common.{◌≡◌, ℕ, zero, suc, ◌+◌, ◌*◌, ◌%◌, ◌<◌, ◌≤◌, ◌==◌, Bool, true, false, nat_lt, List, [], ◌∷◌, length, slice_index, slice_index_or, slice_set, refl, ap, arith, Option, Some, None, is_some, IsSome, cond, count_by}
use Rattle.std.proofs.lemmas.Bool.{ltb-true, ltb-false, lt-ltb, le-ltb}
use Rattle.std.proofs.lemmas.List.{get_or-set_other, length-set}
use Rattle.std.proofs.lemmas.List.Sums.{sum_by-cons, sum_by-set}
use Rattle.pipe_parts.specs.declared.packet.Packet.{Packet}
use Rattle.packet_lines.specs.Lined.{is_of_home}

-- a count of things is the sum of two, where each thing is counted so
pub count_split : {X : Type 0} (p q r : X → Bool) → ((x : X) → cond (p x) 1 0 ≡ cond (q x) 1 0 + cond (r x) 1 0) → (xs : List X) → count_by p xs ≡ count_by q xs + count_by r xs
count_split p q r h [] = omega arith
count_split p q r h (x ∷ xs) =
    let all : count_by p (x ∷ xs) ≡ cond (p x) 1 0 + count_by p xs = sum_by-cons (λ y. cond (p y) 1 0) x xs in
    let some : count_by q (x ∷ xs) ≡ cond (q x) 1 0 + count_by q xs = sum_by-cons (λ y. cond (q y) 1 0) x xs in
    let others : count_by r (x ∷ xs) ≡ cond (r x) 1 0 + count_by r xs = sum_by-cons (λ y. cond (r y) 1 0) x xs in
    let one = h x in
    let rest = count_split p q r h xs in
    omega arith

-- where no thing is counted the count is 0
count_nothing : {X : Type 0} (p : X → Bool) → ((x : X) → p x ≡ false) → (xs : List X) → count_by p xs ≡ 0
count_nothing p none xs =
    let twice = count_split p p p (λ x. rw (none x) (omega arith)) xs in
    omega arith

-- whether there is a packet, and its arrival has a home below a number
below : ℕ → ℕ → Option Packet → Bool
below pipes n None = false
below pipes n (Some packet) = nat_lt (packet.t % pipes) n

-- a number is below the next one, where it is below, or it is the one
one_step : (m n : ℕ) → cond (nat_lt m (suc n)) 1 0 ≡ cond (nat_lt m n) 1 0 + cond (m == n) 1 0
one_step m n = by (nat_lt m n) (m == n) refl refl
  where
    by : (a b : Bool) → nat_lt m n ≡ a → (m == n) ≡ b → cond (nat_lt m (suc n)) 1 0 ≡ cond a 1 0 + cond b 1 0
    by true true e f =
        let less = ltb-true m n e in
        let same : m ≡ n = grind arith in
        absurd (omega arith)
    by true false e f = let less = ltb-true m n e in rw (lt-ltb m (suc n) (omega arith)) refl
    by false true e f = let same : m ≡ n = grind arith in rw (lt-ltb m (suc n) (omega arith)) refl
    by false false e f =
        let past = ltb-false m n e in
        let other : m ≡ n → ⊥ = grind arith in
        rw (le-ltb m (suc n) (omega arith)) refl

below_step : (pipes n : ℕ) (o : Option Packet) → cond (below pipes (suc n) o) 1 0 ≡ cond (below pipes n o) 1 0 + cond (is_of_home pipes n o) 1 0
unfolding below
below_step pipes n None = omega arith
below_step pipes n (Some packet) = one_step (packet.t % pipes) n

below_none : (pipes : ℕ) (o : Option Packet) → below pipes 0 o ≡ false
unfolding below
below_none pipes None = refl
below_none pipes (Some packet) = le-ltb (packet.t % pipes) 0 (omega arith)

below_all : (pipes : ℕ) → 0 < pipes → (o : Option Packet) → cond (is_some o) 1 0 ≡ cond (below pipes pipes o) 1 0 + cond false 1 0
unfolding below
below_all pipes some None = omega arith
below_all pipes some (Some packet) = rw (lt-ltb (packet.t % pipes) pipes (omega arith)) (omega arith)

module _ (pipes window : ℕ) (packets : List (Option Packet)) (few : (home : ℕ) → home < pipes → count_by (is_of_home pipes home) packets ≤ window) where
  few_below : (n : ℕ) → n ≤ pipes → count_by (below pipes n) packets ≤ n * window
  few_below zero le = let none = count_nothing (below pipes 0) (below_none pipes) packets in omega arith
  few_below (suc n) le =
      let step = count_split (below pipes (suc n)) (below pipes n) (is_of_home pipes n) (below_step pipes n) packets in
      let rest = few_below n (omega arith) in
      let here = few n (omega arith) in
      omega arith

  -- no more packets are here than a window of each home
  pub few_in_all : 0 < pipes → count_by is_some packets ≤ pipes * window
  few_in_all some =
      let whole = count_split is_some (below pipes pipes) (λ _. false) (below_all pipes some) packets in
      let none : count_by (λ (o : Option Packet). false) packets ≡ 0 = count_nothing (λ _. false) (λ _. refl) packets in
      let most = few_below pipes (omega arith) in
      omega arith

-- a count after one thing was put in the place of another
pub count_set : {X : Type 0} (p : X → Bool) (xs : List X) (i : ℕ) (y d : X) → i < length xs → count_by p (slice_set xs i y) + cond (p (slice_index_or xs i d)) 1 0 ≡ count_by p xs + cond (p y) 1 0
count_set p xs i y d lt = sum_by-set (λ x. cond (p x) 1 0) xs i y d lt

-- what is counted of a thing
abbrev pub tick : Bool → ℕ
tick b = cond b 1 0

-- arrivals that stand once, and have their packets, are no more than the packets
pub line_short : (line : List ℕ) (packets : List (Option Packet)) → ((i : ℕ) → i < length line → (slice_index line i < length packets) × IsSome (slice_index_or packets (slice_index line i) None))
    → ((i j : ℕ) → i < length line → j < length line → slice_index line i ≡ slice_index line j → i ≡ j) → length line ≤ count_by is_some packets
line_short [] packets here once = omega arith
line_short (t ∷ line) packets here once =
    let less = count_set is_some packets t None None first.0 in
    let counted = one in
    let rest = line_short line (slice_set packets t None) others (λ i j lt more same. (let next = once (suc i) (suc j) (omega arith) (omega arith) same in omega arith)) in
    omega arith
  where
    first : (t < length packets) × IsSome (slice_index_or packets t None)
    first = here 0 (omega arith)

    one : tick (is_some (slice_index_or packets t None)) ≡ tick true
    one = ap tick first.1

    apart : (i : ℕ) → i < length line → slice_index line i ≡ t → ⊥
    apart i lt same = let next = once (suc i) 0 (omega arith) (omega arith) same in absurd (omega arith)

    others : (i : ℕ) → i < length line → (slice_index line i < length (slice_set packets t None)) × IsSome (slice_index_or (slice_set packets t None) (slice_index line i) None)
    others i lt =
        let was = here (suc i) (omega arith) in
        (rw (length-set packets t None) was.0, rw (get_or-set_other packets t (slice_index line i) None None (apart i lt)) was.1)
