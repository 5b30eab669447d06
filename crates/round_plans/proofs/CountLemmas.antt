-- One more arrival in the loads.
use Rattle.std.proofs.Common.{◌≡◌, ◌≢◌, ℕ, zero, suc, ◌+◌, ◌-◌, ◌<◌, ◌≤◌, ◌==◌, Bool, true, false, cond, List, [], ◌∷◌, ◌++◌, length, map, replicate, take, slice_index, slice_set, sum, Option, Some, None, refl, sym, ap, subst, ◌∙◌, arith, add-one, add-zero, get_or-set_same, get_or-set_other, eqb-true}
use Rattle.std.proofs.Math.ListN.{length-set, get_or-append}
use Rattle.std.proofs.lemmas.List.{get_or-append_right, ext_get_or}
use Rattle.std.proofs.lemmas.List.Sums.{sum_by-cons, sum_by-append}
use Rattle.code_forms.specs.StagedMeaning.{is_place, place_code}
use Rattle.shard_rounds.specs.Holding.{row_at}
use Rattle.shard_rounds.specs.Choice.{added}
use Rattle.run_laws.specs.Run.{Run, load_below, place_of}
use Rattle.run_laws.specs.LawfulPlans.{row_below, load_rows}
use Rattle.round_plans.specs.Counting.{row_with, loads_with, IsPlace, ArePlaces}
use Rattle.round_plans.proofs.ChoicePlans.{row_long}

-- ---- one group

pub row_here : (f : ℕ → ℕ) (n u : ℕ) → u < n → slice_index (row_below f n) u ≡ f u
row_here f zero u lt = absurd (omega (arith, lt))
row_here f (suc n) u lt = by (λ other. row_here f n u other) (u == n) refl
  where
    by : (u < n → slice_index (row_below f n) u ≡ f u) → (b : Bool) → (u == n) ≡ b → slice_index (row_below f n ++ f n ∷ []) u ≡ f u
    by rest true e =
        let same : u ≡ n = eqb-true u n e in
        let none : n - n ≡ 0 = omega arith in
        let last : slice_index (row_below f n ++ f n ∷ []) n ≡ f n =
        get_or-append_right (row_below f n) (f n ∷ []) n n 0 (row_long f n) (omega arith) ∙ ap (λ k. slice_index (f n ∷ []) k) none in
        subst (λ k. slice_index (row_below f n ++ f n ∷ []) k ≡ f k) (sym same) last
    by rest false e =
        let other : u < n = grind arith in
        let long = row_long f n in
        get_or-append (row_below f n) (f n ∷ []) 0 u (omega (arith, other, long)) ∙ rest other

-- a row with one more at a place
pub row_one : (f : ℕ → ℕ) (n : ℕ) (place : Option ℕ) → ((u : ℕ) → place ≡ Some u → u < n)
    → row_with (row_below f n) (place_code place) ≡ row_below (λ u. f u + cond (is_place place u) 1 0) n
row_one f n None within = ap (λ (h : ℕ → ℕ). row_below h n) (λ i u. sym (add-zero (f u)) i)
row_one f n (Some v) within =
    ap (row_with (row_below f n)) (add-one v)
    ∙ ext_get_or 0 (slice_set (row_below f n) v (slice_index (row_below f n) v + 1)) (row_below next n)
    (length-set (row_below f n) v (slice_index (row_below f n) v + 1) ∙ row_long f n ∙ sym (row_long next n))
    (λ u less.
    let long = length-set (row_below f n) v (slice_index (row_below f n) v + 1) in
    let wide = row_long f n in
    by u (omega (arith, less, long, wide)) (v == u) refl)
  where
    next : ℕ → ℕ
    next u = f u + cond (v == u) 1 0

    in' : v < length (row_below f n)
    in' = let wide = row_long f n in let lt = within v refl in omega (arith, wide, lt)

    by : (u : ℕ) → u < n → (b : Bool) → (v == u) ≡ b → slice_index (slice_set (row_below f n) v (slice_index (row_below f n) v + 1)) u ≡ slice_index (row_below next n) u
    by u less true e =
        let same : v ≡ u = eqb-true v u e in
        ap (λ k. slice_index (slice_set (row_below f n) v (slice_index (row_below f n) v + 1)) k) (sym same)
        ∙ get_or-set_same (row_below f n) v (slice_index (row_below f n) v + 1) 0 in'
        ∙ ap (λ k. slice_index (row_below f n) k + 1) same
        ∙ ap (λ k. k + 1) (row_here f n u less)
        ∙ sym (row_here next n u less ∙ ap (λ b. f u + cond b 1 0) e)
    by u less false e =
        let other : u ≢ v = grind arith in
        let kept : slice_index (slice_set (row_below f n) v (slice_index (row_below f n) v + 1)) u ≡ slice_index (row_below f n) u = rw get_or-set_other refl in
        kept ∙ row_here f n u less ∙ sym (row_here next n u less ∙ ap (λ b. f u + cond b 1 0) e ∙ add-zero (f u))

-- ---- fewer than all places are in a group

sum_last : (xs : List ℕ) (x : ℕ) → sum (xs ++ x ∷ []) ≡ sum xs + x
sum_last xs x =
    let all = sum_by-append (λ k. k) xs (x ∷ []) in
    let one = sum_by-cons (λ k. k) x [] in
    omega (arith, all, one)

sum_both : (f h : ℕ → ℕ) (n : ℕ) → sum (row_below (λ u. f u + h u) n) ≡ sum (row_below f n) + sum (row_below h n)
sum_both f h zero = refl
sum_both f h (suc n) =
    let rest = sum_both f h n in
    let both = sum_last (row_below (λ u. f u + h u) n) (f n + h n) in
    let one = sum_last (row_below f n) (f n) in
    let other = sum_last (row_below h n) (h n) in
    omega (arith, rest, both, one, other)

abbrev hit : ℕ → ℕ → ℕ
hit v u = cond (v == u) 1 0

hits : (v n : ℕ) → (n ≤ v → sum (row_below (hit v) n) ≡ 0) × (sum (row_below (hit v) n) ≤ 1)
hits v zero = (λ past. refl, omega arith)
hits v (suc n) = by (hits v n) (v == n) refl
  where
    by : (n ≤ v → sum (row_below (hit v) n) ≡ 0) × (sum (row_below (hit v) n) ≤ 1) → (b : Bool) → (v == n) ≡ b
        → (suc n ≤ v → sum (row_below (hit v) n ++ hit v n ∷ []) ≡ 0) × (sum (row_below (hit v) n ++ hit v n ∷ []) ≤ 1)
    by rest true e =
        let here : v ≡ n = eqb-true v n e in
        let before = rest.0 (omega (arith, here)) in
        let all = sum_last (row_below (hit v) n) (hit v n) in
        let one : hit v n ≡ 1 = ap (λ b. cond b 1 0) e in
        (λ past. absurd (omega (arith, past, here)), omega (arith, all, before, one))
    by rest false e =
        let all = sum_last (row_below (hit v) n) (hit v n) in
        let none : hit v n ≡ 0 = ap (λ b. cond b 1 0) e in
        let few = rest.1 in
        (λ past. (let before = rest.0 (omega (arith, past)) in omega (arith, all, before, none)), omega (arith, all, few, none))

one_place : (place : Option ℕ) (n : ℕ) → sum (row_below (λ u. cond (is_place place u) 1 0) n) ≤ 1
one_place None zero = omega arith
one_place None (suc n) =
    let rest = one_place None n in
    let all = sum_last (row_below (λ u. 0) n) 0 in
    omega (arith, rest, all)
one_place (Some v) n = (hits v n).1

-- the places of a group among the first arrivals are at most as many
pub few_places : (run : Run) (g n t : ℕ) → sum (row_below (λ u. load_below run g u t) n) ≤ t
few_places run g n zero = none n
  where
    none : (n : ℕ) → sum (row_below (λ u. 0) n) ≤ 0
    none zero = omega arith
    none (suc n) =
        let rest = none n in
        let all = sum_last (row_below (λ u. 0) n) 0 in
        omega (arith, rest, all)
few_places run g n (suc t) =
    let rest = few_places run g n t in
    let one = one_place (place_of run t g) n in
    let both = sum_both (λ u. load_below run g u t) (λ u. cond (is_place (place_of run t g) u) 1 0) n in
    omega (arith, rest, one, both)

-- ---- all groups

-- one more arrival
pub loads_next : (run : Run) (t g : ℕ) (counts places : List ℕ) → length counts ≤ length places
    → ((k : ℕ) → k < length counts → slice_index places k ≡ place_code (place_of run t (g + k)))
    → ((k u : ℕ) → k < length counts → place_of run t (g + k) ≡ Some u → u < slice_index counts k)
    → loads_with (load_rows run t g counts) places ≡ load_rows run (suc t) g counts
loads_next run t g [] places long are within = refl
loads_next run t g (n ∷ counts) [] long are within = absurd (omega (arith, long))
loads_next run t g (n ∷ counts) (p ∷ places) long are within =
    (λ i. first i ∷ loads_with (load_rows run t (suc g) counts) places)
    ∙ ap (λ (rest : List (List ℕ)). row_below (λ u. load_below run g u (suc t)) n ∷ rest)
    (loads_next run t (suc g) counts places (omega (arith, long))
    (λ k lt. are (suc k) (omega (arith, lt)) ∙ ap (λ h. place_code (place_of run t h)) (sym (next k)))
    (λ k u lt e. within (suc k) u (omega (arith, lt)) (ap (place_of run t) (sym (next k)) ∙ e)))
  where
    here : g + 0 ≡ g
    here = omega arith

    first : row_with (row_below (λ u. load_below run g u t) n) p ≡ row_below (λ u. load_below run g u (suc t)) n
    first =
        ap (row_with (row_below (λ u. load_below run g u t) n)) (are 0 (omega arith) ∙ ap (λ h. place_code (place_of run t h)) here)
        ∙ row_one (λ u. load_below run g u t) n (place_of run t g) (λ u e. within 0 u (omega arith) (ap (place_of run t) here ∙ e))

    next : (k : ℕ) → suc g + k ≡ g + suc k
    next k = omega arith

-- no arrival
pub loads_none : (run : Run) (g : ℕ) (counts : List ℕ) → map (λ n. replicate n 0) counts ≡ load_rows run 0 g counts
loads_none run g [] = refl
loads_none run g (n ∷ counts) = λ i. zeros n i ∷ loads_none run (suc g) counts i
  where
    zeros : (n : ℕ) → replicate n 0 ≡ row_below (λ u. 0) n
    zeros zero = refl
    zeros (suc n) = front n ∙ ap (λ (xs : List ℕ). xs ++ 0 ∷ []) (zeros n)
      where
        front : (n : ℕ) → ◌≡◌ {A = List ℕ} (0 ∷ replicate n 0) (replicate n 0 ++ 0 ∷ [])
        front zero = refl
        front (suc n) = ap (λ (xs : List ℕ). 0 ∷ xs) (front n)

-- ---- group by group

-- the loads with one more place in a group, where there is one
abbrev pub group_with : List (List ℕ) → ℕ → ℕ → List (List ℕ)
group_with loads g zero = loads
group_with loads g (suc u) = added loads g u

pub with_none : (loads : List (List ℕ)) → loads_with loads [] ≡ loads
with_none [] = refl
with_none (row ∷ rows) = refl

pub loads_with_long : (loads : List (List ℕ)) (places : List ℕ) → length (loads_with loads places) ≡ length loads
loads_with_long [] places = refl
loads_with_long (row ∷ rows) [] = refl
loads_with_long (row ∷ rows) (p ∷ places) = ap (λ n. suc n) (loads_with_long rows places)

-- the places of the groups before leave a group as it was
pub row_kept : (loads : List (List ℕ)) (places : List ℕ) (g : ℕ) → row_at (loads_with loads (take g places)) g ≡ row_at loads g
row_kept [] places g = refl
row_kept (row ∷ rows) places zero = refl
row_kept (row ∷ rows) [] (suc g) = refl
row_kept (row ∷ rows) (p ∷ places) (suc g) = row_kept rows places g

-- one group more
pub with_more : (loads : List (List ℕ)) (places : List ℕ) (g : ℕ) → g < length places → ((u : ℕ) → slice_index places g ≡ suc u → g < length loads)
    → loads_with loads (take (suc g) places) ≡ group_with (loads_with loads (take g places)) g (slice_index places g)
with_more loads [] g lt there = absurd (omega (arith, lt))
with_more [] (p ∷ places) g lt there = by (slice_index (p ∷ places) g) there
  where
    by : (q : ℕ) → ((u : ℕ) → q ≡ suc u → g < 0) → [] ≡ group_with [] g q
    by zero none = refl
    by (suc u) none = let lt = none u refl in absurd (omega (arith, lt))
with_more (row ∷ rows) (p ∷ places) zero lt there = by p
  where
    by : (q : ℕ) → row_with row q ∷ loads_with rows [] ≡ group_with (row ∷ rows) 0 q
    by zero = ap (λ (rest : List (List ℕ)). row ∷ rest) (with_none rows)
    by (suc u) = ap (λ (rest : List (List ℕ)). row_with row (suc u) ∷ rest) (with_none rows)
with_more (row ∷ rows) (p ∷ places) (suc g) lt there =
    ap (λ (rest : List (List ℕ)). row_with row p ∷ rest) (with_more rows places g (omega (arith, lt)) (λ u e. (let less = there u e in omega (arith, less))))
    ∙ by (slice_index places g)
  where
    by : (q : ℕ) → row_with row p ∷ group_with (loads_with rows (take g places)) g q ≡ group_with (row_with row p ∷ loads_with rows (take g places)) (suc g) q
    by zero = refl
    by (suc u) = refl

module _ (loads now : List (List ℕ)) (places : List ℕ) (g : ℕ) (is : now ≡ loads_with loads (take g places)) (lt : g < length places) (all : ArePlaces loads places) where
  -- the place of the next group is one there
  pub place_now : 0 < slice_index places g → IsPlace now g (slice_index places g - 1)
  place_now some = record {
    group = omega (arith, there.group, long);
    unit = subst (λ n. slice_index places g - 1 < n) (ap length (sym kept)) there.unit;
    few = subst (λ n. n < 262144) (ap (λ (xs : List ℕ). sum xs) (sym kept)) there.few;
  }
    where
      there : IsPlace loads g (slice_index places g - 1)
      there = all g (slice_index places g - 1) lt (omega (arith, some))

      long : length now ≡ length loads
      long = ap length is ∙ loads_with_long loads (take g places)

      kept : row_at now g ≡ row_at loads g
      kept = ap (λ (rows : List (List ℕ)). row_at rows g) is ∙ row_kept loads places g

  more : loads_with loads (take (g + 1) places) ≡ group_with now g (slice_index places g)
  more =
      ap (λ n. loads_with loads (take n places)) (add-one g) ∙ with_more loads places g lt (λ u e. (all g u lt e).group)
      ∙ ap (λ (rows : List (List ℕ)). group_with rows g (slice_index places g)) (sym is)

  -- where it is counted the group is
  pub counted_now : (after : List (List ℕ)) → 0 < slice_index places g → after ≡ added now g (slice_index places g - 1) → after ≡ loads_with loads (take (g + 1) places)
  counted_now after some e =
      let next : slice_index places g ≡ suc (slice_index places g - 1) = omega (arith, some) in
      e ∙ ap (group_with now g) (sym next) ∙ sym more

  -- without a place it is too
  pub passed_now : (after : List (List ℕ)) → (0 < slice_index places g → ⊥) → after ≡ now → after ≡ loads_with loads (take (g + 1) places)
  passed_now after none e =
      let next : slice_index places g ≡ 0 = omega (arith, none) in
      e ∙ ap (group_with now g) (sym next) ∙ sym more
