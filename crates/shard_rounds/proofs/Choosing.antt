-- The choice of the pipe that gives, the pipe that takes, and the unit that goes.
use Rattle.std.proofs.Common.{◌≡◌, ◌≢◌, ℕ, zero, suc, ◌+◌, ◌-◌, ◌<◌, ◌≤◌, ◌==◌, Bool, true, false, cond, nat_lt, map, replicate, drop, slice_set, List, [], ◌∷◌, ◌++◌, length, take, slice_index, refl, sym, ap, subst, ◌∙◌, arith, add-one, add-zero, zero-add, length-append, length-take, get_or-set_same, get_or-set_other, sum, count_by, Option, Some, None}
use Rattle.std.specs.List.{All}
use Rattle.std.proofs.Math.ListN.{length-set, get_or-append}
use Rattle.std.proofs.Math.Nat.{sub_self}
use Rattle.std.proofs.lemmas.List.{take-append-drop, take_all, get_or-take, get_or-append_right, ext_get_or}
use Rattle.std.proofs.lemmas.List.Elements.{All-nil, All-cons, All-head, All-tail, All-append, All-weaker}
use Rattle.std.proofs.lemmas.Bool.{ltb-true, ltb-false, eqb-true, eq-eqb}
use Rattle.std.proofs.lemmas.List.Sums.{sum_by-cons, sum_by-append, count_by-le-length}
use Rattle.shard_rounds.specs.declared.plan.Move.{Move}
use Rattle.shard_rounds.specs.Rounds.{OwnerTable, IsTable, IsPlan, CanMove, owner_now}
use Rattle.shard_rounds.specs.Holding.{row_at, RowsAre}
use Rattle.shard_rounds.specs.Choice.{total, IsFirstMost, IsFirstLeast, MayGo, IsUnitChoice, IsGroupChoice, IsChoiceBelow, IsChoice, AreOverSame, move_of, owner_row, owners_of}
use Rattle.shard_rounds.proofs.Moves.{count_cons}
use Rattle.shard_rounds.proofs.Tables.{now_is_pipe}

-- the best of the units below a number, with its load
abbrev pub BestBelow : List ℕ → List ℕ → ℕ → ℕ → ℕ → ℕ → Option ℕ → Type 0
BestBelow owners loads giver gap n most None = (most ≡ 0) × ((v : ℕ) → v < n → MayGo owners loads giver gap v → ⊥)
BestBelow owners loads giver gap n most (Some u) = (u < n) × (slice_index loads u ≡ most) × MayGo owners loads giver gap u
    × ((v : ℕ) → v < n → MayGo owners loads giver gap v → slice_index loads v ≤ most)
    × ((v : ℕ) → v < u → MayGo owners loads giver gap v → slice_index loads v < most)

-- ---- the choice is one

pub most_once : (n : ℕ) (f : ℕ → ℕ) (i j : ℕ) → IsFirstMost n f i → IsFirstMost n f j → i ≡ j
most_once n f i j h k = by (nat_lt i j) refl (nat_lt j i) refl
  where
    by : (a : Bool) → nat_lt i j ≡ a → (b : Bool) → nat_lt j i ≡ b → i ≡ j
    by true e b d = let less = k.first i (ltb-true i j e) in let most = h.most j k.within in absurd (omega arith)
    by false e true d = let less = h.first j (ltb-true j i d) in let most = k.most i h.within in absurd (omega arith)
    by false e false d = let le = ltb-false i j e in let ge = ltb-false j i d in omega arith

pub least_once : (n : ℕ) (f : ℕ → ℕ) (i j : ℕ) → IsFirstLeast n f i → IsFirstLeast n f j → i ≡ j
least_once n f i j h k = by (nat_lt i j) refl (nat_lt j i) refl
  where
    by : (a : Bool) → nat_lt i j ≡ a → (b : Bool) → nat_lt j i ≡ b → i ≡ j
    by true e b d = let less = k.first i (ltb-true i j e) in let least = h.least j k.within in absurd (omega arith)
    by false e true d = let less = h.first j (ltb-true j i d) in let least = k.least i h.within in absurd (omega arith)
    by false e false d = let le = ltb-false i j e in let ge = ltb-false j i d in omega arith

pub unit_once : (owners loads : List ℕ) (giver gap : ℕ) (a b : Option ℕ) → IsUnitChoice owners loads giver gap a → IsUnitChoice owners loads giver gap b → a ≡ b
unit_once owners loads giver gap None None h k = refl
unit_once owners loads giver gap None (Some v) h k = absurd (h v k.may)
unit_once owners loads giver gap (Some u) None h k = absurd (k u h.may)
unit_once owners loads giver gap (Some u) (Some v) h k = ap (λ n. Some n) (by (nat_lt u v) refl (nat_lt v u) refl)
  where
    by : (a : Bool) → nat_lt u v ≡ a → (b : Bool) → nat_lt v u ≡ b → u ≡ v
    by true e b d = let less = k.first u h.may (ltb-true u v e) in let most = h.most v k.may in absurd (omega arith)
    by false e true d = let less = h.first v k.may (ltb-true v u d) in let most = k.most u h.may in absurd (omega arith)
    by false e false d = let le = ltb-false u v e in let ge = ltb-false v u d in omega arith

pub group_once : (owners loads : List ℕ) (n g : ℕ) (xs ys : List Move) → IsGroupChoice owners loads n g xs → IsGroupChoice owners loads n g ys → xs ≡ ys
group_once owners loads n g xs ys h k = h.is ∙ (λ i. move_of g (givers i) (takers i) (units i)) ∙ sym k.is
  where
    givers : h.giver ≡ k.giver
    givers = most_once n (total owners loads) h.giver k.giver h.gives k.gives

    takers : h.taker ≡ k.taker
    takers = least_once n (total owners loads) h.taker k.taker h.takes k.takes

    gap : ℕ
    gap = total owners loads k.giver - total owners loads k.taker

    units : h.unit ≡ k.unit
    units =
        unit_once owners loads k.giver (total owners loads k.giver - total owners loads k.taker) h.unit k.unit
        (subst (λ (p : ℕ × ℕ). IsUnitChoice owners loads p.0 (total owners loads p.0 - total owners loads p.1) h.unit) (λ i. (givers i, takers i)) h.chosen) k.chosen

-- the choice of all groups is one
pub choice_once : (loads : List (List ℕ)) (o : OwnerTable) (n : ℕ) (xs ys : List Move) → IsChoiceBelow loads o n xs → IsChoiceBelow loads o n ys → xs ≡ ys
choice_once loads o zero xs ys h k = h ∙ sym k
choice_once loads o (suc n) xs ys (before, after, h, here, is) (before', after', k, there, is') =
    is ∙ (λ i. choice_once loads o n before before' h k i ++ group_once (owners_of o n) (row_at loads n) o.pipelines n after after' here there i) ∙ sym is'

-- ---- the totals

pub total_more : (os ls : List ℕ) (n p : ℕ) → n < length os → n < length ls → total (take (suc n) os) (take (suc n) ls) p ≡ total (take n os) (take n ls) p + cond (slice_index os n == p) (slice_index ls n) 0
total_more [] ls n p lt lt' = absurd (omega arith)
total_more (o ∷ os) [] n p lt lt' = absurd (omega arith)
total_more (o ∷ os) (l ∷ ls) zero p lt lt' = omega arith
total_more (o ∷ os) (l ∷ ls) (suc n) p lt lt' = let rest = total_more os ls n p (omega arith) (omega arith) in omega arith

pub total_fits : (os ls : List ℕ) (p : ℕ) → total os ls p ≤ sum ls
total_fits [] ls p = omega arith
total_fits (o ∷ os) [] p = omega arith
total_fits (o ∷ os) (l ∷ ls) p = by (total_fits os ls p) (o == p)
  where
    by : total os ls p ≤ sum ls → (b : Bool) → cond b l 0 + total os ls p ≤ sum (l ∷ ls)
    by rest true = let all = sum_by-cons (λ k. k) l ls in omega arith
    by rest false = let all = sum_by-cons (λ k. k) l ls in omega arith

sum_take : (n : ℕ) (ls : List ℕ) → sum (take n ls) ≤ sum ls
sum_take n ls =
    let parts = sum_by-append (λ k. k) (take n ls) (drop n ls) in
    let all : sum (take n ls ++ drop n ls) ≡ sum ls = ap (λ (xs : List ℕ). sum xs) (take-append-drop n ls) in
    omega arith

-- the totals so far
pub record TotalsAre (totals os ls : List ℕ) (n : ℕ) : Type 0 where
  pub size : length totals ≡ 8
  pub each : (p : ℕ) → p < 8 → slice_index totals p ≡ total (take n os) (take n ls) p

pub totals_fit : (totals os ls : List ℕ) (n : ℕ) → TotalsAre totals os ls n → n < length os → n < length ls → slice_index os n < 8 → sum ls ≤ 262144 → slice_index totals (slice_index os n) + slice_index ls n ≤ 262144
totals_fit totals os ls n h lt lt' small few =
    let was = h.each (slice_index os n) small in
    let more : total (take (suc n) os) (take (suc n) ls) (slice_index os n) ≡ total (take n os) (take n ls) (slice_index os n) + slice_index ls n =
    total_more os ls n (slice_index os n) lt lt' ∙ ap (λ b. total (take n os) (take n ls) (slice_index os n) + cond b (slice_index ls n) 0) (eq-eqb (slice_index os n) (slice_index os n) refl) in
    let fits = total_fits (take (suc n) os) (take (suc n) ls) (slice_index os n) in
    let part = sum_take (suc n) ls in
    omega arith

pub totals_step : (totals os ls : List ℕ) (n : ℕ) → TotalsAre totals os ls n → n < length os → n < length ls → slice_index os n < 8
    → TotalsAre (slice_set totals (slice_index os n) (slice_index totals (slice_index os n) + slice_index ls n)) os ls (n + 1)
totals_step totals os ls n h lt lt' small = record {
  size = length-set totals (slice_index os n) (slice_index totals (slice_index os n) + slice_index ls n) ∙ h.size;
  each = λ p less. by p less (slice_index os n == p) refl;
}
  where
    in' : slice_index os n < length totals
    in' = let size = h.size in omega arith

    next : (p : ℕ) → total (take (n + 1) os) (take (n + 1) ls) p ≡ total (take n os) (take n ls) p + cond (slice_index os n == p) (slice_index ls n) 0
    next p = ap (λ k. total (take k os) (take k ls) p) (add-one n) ∙ total_more os ls n p lt lt'

    by : (p : ℕ) → p < 8 → (b : Bool) → (slice_index os n == p) ≡ b
        → slice_index (slice_set totals (slice_index os n) (slice_index totals (slice_index os n) + slice_index ls n)) p ≡ total (take (n + 1) os) (take (n + 1) ls) p
    by p less true e =
        let same : slice_index os n ≡ p = eqb-true (slice_index os n) p e in
        let was = h.each p less in
        ap (λ k. slice_index (slice_set totals (slice_index os n) (slice_index totals (slice_index os n) + slice_index ls n)) k) (sym same)
        ∙ get_or-set_same totals (slice_index os n) (slice_index totals (slice_index os n) + slice_index ls n) 0 in'
        ∙ ap (λ k. slice_index totals k + slice_index ls n) same
        ∙ ap (λ k. k + slice_index ls n) was
        ∙ sym (next p ∙ ap (λ b. total (take n os) (take n ls) p + cond b (slice_index ls n) 0) e)
    by p less false e =
        let other : p ≢ slice_index os n = grind arith in
        let kept : slice_index (slice_set totals (slice_index os n) (slice_index totals (slice_index os n) + slice_index ls n)) p ≡ slice_index totals p = rw get_or-set_other refl in
        kept ∙ h.each p less ∙ sym (next p ∙ ap (λ b. total (take n os) (take n ls) p + cond b (slice_index ls n) 0) e ∙ add-zero (total (take n os) (take n ls) p))

-- a unit without a load adds nothing
pub totals_skip : (totals os ls : List ℕ) (n : ℕ) → TotalsAre totals os ls n → n < length os → n < length ls → slice_index ls n ≡ 0 → TotalsAre totals os ls (n + 1)
totals_skip totals os ls n h lt lt' none = record {
  size = h.size;
  each = λ p less. h.each p less ∙ sym (ap (λ k. total (take k os) (take k ls) p) (add-one n) ∙ total_more os ls n p lt lt' ∙ by p (slice_index os n == p));
}
  where
    by : (p : ℕ) (b : Bool) → total (take n os) (take n ls) p + cond b (slice_index ls n) 0 ≡ total (take n os) (take n ls) p
    by p true = omega (arith, none)
    by p false = omega arith

-- the totals of all units
pub totals_all : (totals os ls : List ℕ) (n : ℕ) → TotalsAre totals os ls n → length os ≤ n → length ls ≤ n → (p : ℕ) → p < 8 → slice_index totals p ≡ total os ls p
totals_all totals os ls n h le le' p less = h.each p less ∙ (λ i. total (take_all n os le i) (take_all n ls le' i) p)

-- the same pipe by other numbers that are the same
pub most_same : (totals : List ℕ) (n : ℕ) (f : ℕ → ℕ) (i : ℕ) → n ≤ 8 → length totals ≡ 8 → ((p : ℕ) → p < 8 → slice_index totals p ≡ f p) → IsFirstMost (length (take n totals)) (slice_index (take n totals)) i → IsFirstMost n f i
most_same totals n f i le size are h = record {
  within = in';
  most = λ j lt. let a = at j lt in let b = at i in' in let l = long in let c = h.most j (omega arith) in omega arith;
  first = λ j lt. let w = in' in let a = at j (omega arith) in let b = at i in' in let c = h.first j lt in omega arith;
}
  where
    long : length (take n totals) ≡ n
    long = let all = length-take n totals in omega arith

    in' : i < n
    in' = let w = h.within in let l = long in omega arith

    at : (j : ℕ) → j < n → slice_index (take n totals) j ≡ f j
    at j lt = get_or-take n totals j 0 lt ∙ are j (omega arith)

pub least_same : (totals : List ℕ) (n : ℕ) (f : ℕ → ℕ) (i : ℕ) → n ≤ 8 → length totals ≡ 8 → ((p : ℕ) → p < 8 → slice_index totals p ≡ f p) → IsFirstLeast (length (take n totals)) (slice_index (take n totals)) i → IsFirstLeast n f i
least_same totals n f i le size are h = record {
  within = in';
  least = λ j lt. let a = at j lt in let b = at i in' in let l = long in let c = h.least j (omega arith) in omega arith;
  first = λ j lt. let w = in' in let a = at j (omega arith) in let b = at i in' in let c = h.first j lt in omega arith;
}
  where
    long : length (take n totals) ≡ n
    long = let all = length-take n totals in omega arith

    in' : i < n
    in' = let w = h.within in let l = long in omega arith

    at : (j : ℕ) → j < n → slice_index (take n totals) j ≡ f j
    at j lt = get_or-take n totals j 0 lt ∙ are j (omega arith)

-- the choice of a group from its parts
pub group_choice : (owners loads totals : List ℕ) (n g giver taker : ℕ) (unit : Option ℕ) → n ≤ 8 → length totals ≡ 8 → ((p : ℕ) → p < 8 → slice_index totals p ≡ total owners loads p)
    → IsFirstMost (length (take n totals)) (slice_index (take n totals)) giver → IsFirstLeast (length (take n totals)) (slice_index (take n totals)) taker
    → IsUnitChoice owners loads giver (slice_index totals giver - slice_index totals taker) unit → IsGroupChoice owners loads n g (move_of g giver taker unit)
group_choice owners loads totals n g giver taker unit le size are m l u = record {
  giver = giver;
  taker = taker;
  unit = unit;
  gives = gives;
  takes = takes;
  chosen = subst (λ gap. IsUnitChoice owners loads giver gap unit) (λ i. are giver (let w = gives.within in omega arith) i - are taker (let w = takes.within in omega arith) i) u;
  is = refl;
}
  where
    gives : IsFirstMost n (total owners loads) giver
    gives = most_same totals n (total owners loads) giver le size are m

    takes : IsFirstLeast n (total owners loads) taker
    takes = least_same totals n (total owners loads) taker le size are l

-- with one pipe no unit goes
pub lone_choice : (owners loads : List ℕ) (n g : ℕ) → 1 ≤ n → n < 2 → IsGroupChoice owners loads n g []
lone_choice owners loads n g some one = record {
  giver = 0;
  taker = 0;
  unit = None;
  gives = record { within = omega arith; most = λ j lt. (let e : j ≡ 0 = omega arith in subst (λ k. total owners loads k ≤ total owners loads 0) (sym e) (omega arith)); first = λ j lt. absurd (omega arith) };
  takes = record { within = omega arith; least = λ j lt. (let e : j ≡ 0 = omega arith in subst (λ k. total owners loads 0 ≤ total owners loads k) (sym e) (omega arith)); first = λ j lt. absurd (omega arith) };
  chosen = λ u may. (let half = may.half in let loaded = may.loaded in let gap : total owners loads 0 - total owners loads 0 ≡ 0 = sub_self (total owners loads 0) in absurd (omega arith));
  is = refl;
}

pub lone_all : (loads : List (List ℕ)) (o : OwnerTable) (n : ℕ) → o.pipelines ≡ 1 → IsChoiceBelow loads o n []
lone_all loads o zero lone = refl
lone_all loads o (suc n) lone = ([], [], lone_all loads o n lone, lone_choice (owners_of o n) (row_at loads n) o.pipelines n (omega (arith, lone)) (omega (arith, lone)), refl)

-- ---- the owners of a group as a list

pub owner_row_length : (o : OwnerTable) (g n : ℕ) → length (owner_row o g n) ≡ n
owner_row_length o g zero = refl
owner_row_length o g (suc n) =
    let rest = owner_row_length o g n in
    let all = length-append (owner_row o g n) (owner_now o g n ∷ []) in
    omega arith

pub owner_row_at : (o : OwnerTable) (g n u : ℕ) → u < n → slice_index (owner_row o g n) u ≡ owner_now o g u
owner_row_at o g zero u lt = absurd (omega arith)
owner_row_at o g (suc n) u lt = by (λ other. owner_row_at o g n u other) (u == n) refl
  where
    by : (u < n → slice_index (owner_row o g n) u ≡ owner_now o g u) → (b : Bool) → (u == n) ≡ b → slice_index (owner_row o g n ++ owner_now o g n ∷ []) u ≡ owner_now o g u
    by rest true e =
        let same : u ≡ n = eqb-true u n e in
        get_or-append_right (owner_row o g n) (owner_now o g n ∷ []) n u 0 (owner_row_length o g n) (omega arith)
        ∙ rw (same, sub_self) refl
    by rest false e =
        let other : u < n = grind arith in
        let long = owner_row_length o g n in
        get_or-append (owner_row o g n) (owner_now o g n ∷ []) 0 u (omega arith) ∙ rest other

-- a row that has them is this list
pub row_owners : (o now : OwnerTable) (rows : List (List ℕ)) (g : ℕ) → o ≡ now → RowsAre o.units rows (owner_now o) → g < length now.units → row_at rows g ≡ owners_of now g
row_owners o now rows g same h lt =
    let here : g < length o.units = subst (λ (r : OwnerTable). g < length r.units) (sym same) lt in
    ext_get_or 0 (row_at rows g) (owners_of o g) (h.widths g here ∙ sym (owner_row_length o g (slice_index o.units g)))
    (λ u less. let wide = h.widths g here in h.numbers g u here (omega arith) ∙ sym (owner_row_at o g (slice_index o.units g) u (omega arith)))
    ∙ ap (λ (r : OwnerTable). owners_of r g) same

-- ---- the chosen moves are a plan

none_of : (g : ℕ) (ms : List Move) → All (λ m. m.group ≢ g) ms → count_by (λ m. m.group == g) ms ≡ 0
none_of g [] h = refl
none_of g (m ∷ ms) h =
    let apart : (m.group == g) ≡ false = differ m.group g (All-head (λ x. x.group ≢ g) m ms h) in
    let all : count_by (λ x. x.group == g) (m ∷ ms) ≡ 0 + count_by (λ x. x.group == g) ms = count_cons g m ms ∙ ap (λ b. cond b 1 0 + count_by (λ x. x.group == g) ms) apart in
    let rest = none_of g ms (All-tail (λ x. x.group ≢ g) m ms h) in
    omega arith
  where
    differ : (a b : ℕ) → a ≢ b → (a == b) ≡ false
    differ a b ne = grind arith

-- the move of a group can be made, and is the only one
after_choice : (o : OwnerTable) (loads : List ℕ) (n : ℕ) (ms : List Move) → n < length o.units → IsGroupChoice (owners_of o n) loads o.pipelines n ms → All (λ m. CanMove o m × (m.group ≡ n)) ms × (length ms ≤ 1)
after_choice o loads n ms lt h = subst (λ (xs : List Move). All (λ m. CanMove o m × (m.group ≡ n)) xs × (length xs ≤ 1)) (sym h.is) (by h.unit h.chosen)
  where
    by : (unit : Option ℕ) → IsUnitChoice (owners_of o n) loads h.giver (total (owners_of o n) loads h.giver - total (owners_of o n) loads h.taker) unit
        → All (λ m. CanMove o m × (m.group ≡ n)) (move_of n h.giver h.taker unit) × (length (move_of n h.giver h.taker unit) ≤ 1)
    by None k = (All-nil (λ m. CanMove o m × (m.group ≡ n)), omega arith)
    by (Some u) k =
        let long = owner_row_length o n (slice_index o.units n) in
        let within = k.may.within in
        let less : u < slice_index o.units n = omega arith in (
          All-cons (λ m. CanMove o m × (m.group ≡ n)) (record { group = n; unit = u; giver = h.giver; taker = h.taker }) []
              (record { unit = record { group = lt; unit = less }; giver = sym k.may.owned ∙ owner_row_at o n (slice_index o.units n) u less; taker = h.takes.within }, refl)
              (All-nil (λ m. CanMove o m × (m.group ≡ n))),
          omega arith,
        )

below_choice : (loads : List (List ℕ)) (o : OwnerTable) (n : ℕ) (ms : List Move) → IsChoiceBelow loads o n ms → n ≤ length o.units
    → All (λ m. CanMove o m × (m.group < n)) ms × ((g : ℕ) → count_by (λ m. m.group == g) ms ≤ 1)
below_choice loads o zero ms h le = (subst (λ (xs : List Move). All (λ m. CanMove o m × (m.group < 0)) xs) (sym h) (All-nil (λ m. CanMove o m × (m.group < 0))), λ g. subst (λ (xs : List Move). count_by (λ m. m.group == g) xs ≤ 1) (sym h) (omega arith))
below_choice loads o (suc n) ms (before, after, h, here, is) le =
    subst (λ (xs : List Move). All (λ m. CanMove o m × (m.group < suc n)) xs × ((g : ℕ) → count_by (λ m. m.group == g) xs ≤ 1)) (sym is)
    (both (below_choice loads o n before h (omega arith)) (after_choice o (row_at loads n) n after (omega arith) here))
  where
    both : All (λ m. CanMove o m × (m.group < n)) before × ((g : ℕ) → count_by (λ m. m.group == g) before ≤ 1) → All (λ m. CanMove o m × (m.group ≡ n)) after × (length after ≤ 1)
        → All (λ m. CanMove o m × (m.group < suc n)) (before ++ after) × ((g : ℕ) → count_by (λ m. m.group == g) (before ++ after) ≤ 1)
    both x y = (
      All-append (λ m. CanMove o m × (m.group < suc n)) before after
          (All-weaker (λ m. CanMove o m × (m.group < n)) (λ m. CanMove o m × (m.group < suc n)) (λ m k. (k.0, (let lt = k.1 in omega arith))) before x.0)
          (All-weaker (λ m. CanMove o m × (m.group ≡ n)) (λ m. CanMove o m × (m.group < suc n)) (λ m k. (k.0, (let e = k.1 in omega arith))) after y.0),
      λ g. one g (g == n) refl,
    )
      where
        parts : (g : ℕ) → count_by (λ m. m.group == g) (before ++ after) ≡ count_by (λ m. m.group == g) before + count_by (λ m. m.group == g) after
        parts g = sum_by-append (λ m. cond (m.group == g) 1 0) before after

        one : (g : ℕ) (b : Bool) → (g == n) ≡ b → count_by (λ m. m.group == g) (before ++ after) ≤ 1
        one g true e =
            let same : g ≡ n = eqb-true g n e in
            let none = none_of g before (All-weaker (λ m. CanMove o m × (m.group < n)) (λ m. m.group ≢ g) (λ m k f. let lt = k.1 in absurd (omega arith)) before x.0) in
            let few = count_by-le-length (λ m. m.group == g) after in
            let single = y.1 in
            let all = parts g in
            omega arith
        one g false e =
            let other : g ≢ n = grind arith in
            let none = none_of g after (All-weaker (λ m. CanMove o m × (m.group ≡ n)) (λ m. m.group ≢ g) (λ m k f. let at = k.1 in absurd (other (sym f ∙ at))) after y.0) in
            let few = x.1 g in
            let all = parts g in
            omega arith

pub choice_plan : (loads : List (List ℕ)) (o : OwnerTable) (ms : List Move) → AreOverSame loads o → IsChoice loads o ms → IsPlan o ms
choice_plan loads o ms same h =
    let all = below_choice loads o (length loads) ms h (let groups = same.groups in omega arith) in
    record { each = All-weaker (λ m. CanMove o m × (m.group < length loads)) (CanMove o) (λ m k. k.0) ms all.0; single = all.1 }

-- ---- no loads

pub no_loads : (units : List ℕ) (g : ℕ) → sum (row_at (map (λ n. replicate n 0) units) g) ≡ 0
no_loads [] g = refl
no_loads (n ∷ units) zero = zeros n
  where
    zeros : (n : ℕ) → sum (replicate n 0) ≡ 0
    zeros zero = refl
    zeros (suc n) = sum_by-cons (λ k. k) 0 (replicate n 0) ∙ zero-add (sum (replicate n 0)) ∙ zeros n
no_loads (n ∷ units) (suc g) = no_loads units g

-- ---- what is asked of a group's rows

pub row_size : (o : OwnerTable) (g : ℕ) → IsTable o → g < length o.units → length (owners_of o g) ≤ 65536
row_size o g h lt = let long = owner_row_length o g (slice_index o.units g) in let size = h.units.sizes g 0 lt in omega (arith, size.1)

pub row_pipes : (o : OwnerTable) (g u : ℕ) → IsTable o → u < length (owners_of o g) → slice_index (owners_of o g) u < o.pipelines
row_pipes o g u h lt =
    let long = owner_row_length o g (slice_index o.units g) in
    subst (λ n. n < o.pipelines) (sym (owner_row_at o g (slice_index o.units g) u (omega arith))) (now_is_pipe o g u h)
