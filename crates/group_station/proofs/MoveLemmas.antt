-- The owners of a group's units from one round to the next: a plan has at most one move of a group, and its giver owns the
-- unit.
use Rattle.std.proofs.Common.{◌≡◌, ℕ, zero, suc, ◌+◌, ◌*◌, ◌<◌, ◌≤◌, ◌==◌, ◌&&◌, Bool, true, false, cond, List, [], ◌∷◌, length, map, take, slice_index, slice_index_or, count_by, Option, Some, None, refl, sym, ap, subst, ◌∙◌, arith, length-append, eqb-true, take-suc}
use Rattle.std.specs.List.{All}
use Rattle.std.proofs.lemmas.List.Elements.{All-head, All-tail}
use Rattle.shard_rounds.specs.declared.plan.Move.{Move}
use Rattle.shard_rounds.specs.Rounds.{IsUnit, IsPlan, CanMove, joined, after_moves, first_owner, owner, owner_now}
use Rattle.shard_rounds.specs.Holding.{row_at}
use Rattle.shard_rounds.specs.Choice.{AreOverSame}
use Rattle.shard_rounds.proofs.Choosing.{choice_plan}
use Rattle.shard_rounds.proofs.Moves.{after_append, joined_append, count_cons}
use Rattle.code_forms.specs.declared.parts.StagedGroup.{StagedGroup}
use Rattle.code_forms.specs.Staged.{Staged, no_group, unit_count}
use Rattle.run_laws.specs.Run.{Run, load_below, unit_counts}
use Rattle.run_laws.specs.LawfulPlans.{AreLawful, Owns, row_below, load_rows, loads_below, owners_after}
use Rattle.run_laws.proofs.PlanLemmas.{owns_by, owner_is}
use Rattle.group_station.specs.Station.{Site, width_at, OwnsAt}
use Rattle.group_station.specs.Steps.{move_in}

-- ---- loads and owners are over the same units

row_long : (f : ℕ → ℕ) (n : ℕ) → length (row_below f n) ≡ n
row_long f zero = refl
row_long f (suc n) = let rest = row_long f n in let all = length-append (row_below f n) (f n ∷ []) in omega arith

rows_long : (run : Run) (t g : ℕ) (counts : List ℕ) → length (load_rows run t g counts) ≡ length counts
rows_long run t g [] = refl
rows_long run t g (n ∷ counts) = let rest = rows_long run t (suc g) counts in omega arith

row_wide : (run : Run) (t g : ℕ) (counts : List ℕ) (k : ℕ) → k < length counts → length (row_at (load_rows run t g counts) k) ≡ slice_index counts k
row_wide run t g [] k lt = absurd (omega arith)
row_wide run t g (n ∷ counts) zero lt = row_long (λ u. load_below run g u t) n
row_wide run t g (n ∷ counts) (suc k) lt = row_wide run t (suc g) counts k (omega arith)

pub over_same : (run : Run) (t : ℕ) (plans : List (List Move)) → AreOverSame (loads_below run t) (owners_after run plans)
over_same run t plans = record {
  groups = rows_long run t 0 (unit_counts run);
  units = λ g lt. row_wide run t 0 (unit_counts run) g (let long = rows_long run t 0 (unit_counts run) in omega (arith, lt, long));
}

-- so a lawful plan is one that the owners before it can have
pub lawful_plan : (run : Run) (plans : List (List Move)) (e : ℕ) → AreLawful run plans → e < length plans → IsPlan (owners_after run (take e plans)) (slice_index_or plans e [])
lawful_plan run plans e lawful lt =
    choice_plan (loads_below run (e * run.settings.round)) (owners_after run (take e plans)) (slice_index_or plans e []) (over_same run (e * run.settings.round) (take e plans)) (lawful.chosen e lt)

-- ---- the width of a group

counts_at : (c : Staged) (groups : List StagedGroup) (g : ℕ) → g < length groups → slice_index (map (unit_count c) groups) g ≡ unit_count c (slice_index_or groups g no_group)
counts_at c [] g lt = absurd (omega arith)
counts_at c (x ∷ xs) zero lt = refl
counts_at c (x ∷ xs) (suc g) lt = counts_at c xs g (omega arith)

counts_long : (c : Staged) (groups : List StagedGroup) → length (map (unit_count c) groups) ≡ length groups
counts_long c [] = refl
counts_long c (x ∷ xs) = let rest = counts_long c xs in omega arith

-- a number below the width is a unit of the group, and no other is
pub is_unit : (a : Site) (u : ℕ) → a.group < length a.run.code.groups → u < width_at a → IsUnit (unit_counts a.run) a.group u
is_unit a u there lt = record {
  group = let long = counts_long a.run.code a.run.code.groups in omega (arith, long, there);
  unit = subst (λ n. u < n) (sym (counts_at a.run.code a.run.code.groups a.group there)) lt;
}

pub unit_within : (a : Site) (u : ℕ) → a.group < length a.run.code.groups → IsUnit (unit_counts a.run) a.group u → u < width_at a
unit_within a u there unit = subst (λ n. u < n) (counts_at a.run.code a.run.code.groups a.group there) unit.unit

-- ---- the owner after a plan

-- the owner after the move of the group, if there is one
abbrev pub owner_by : ℕ → ℕ → Option Move → ℕ
owner_by u p None = p
owner_by u p (Some m) = cond (m.unit == u) m.taker p

-- moves of other groups leave a unit where it is
unmoved : (g u p : ℕ) (moves : List Move) → count_by (λ m. m.group == g) moves ≡ 0 → after_moves g u p moves ≡ p
unmoved g u p [] none = refl
unmoved g u p (m ∷ moves) none = by (unmoved g u p moves) (m.group == g) refl
  where
    by : (count_by (λ x. x.group == g) moves ≡ 0 → after_moves g u p moves ≡ p) → (b : Bool) → (m.group == g) ≡ b → after_moves g u p (m ∷ moves) ≡ p
    by rest true e =
        let all : count_by (λ x. x.group == g) (m ∷ moves) ≡ 1 + count_by (λ x. x.group == g) moves = count_cons g m moves ∙ ap (λ b. cond b 1 0 + count_by (λ x. x.group == g) moves) e in
        absurd (omega (arith, all, none))
    by rest false e =
        let all : count_by (λ x. x.group == g) (m ∷ moves) ≡ 0 + count_by (λ x. x.group == g) moves = count_cons g m moves ∙ ap (λ b. cond b 1 0 + count_by (λ x. x.group == g) moves) e in
        ap (λ b. after_moves g u (cond (b && m.unit == u) m.taker p) moves) e ∙ rest (omega (arith, all, none))

pub owner_moved : (g u p : ℕ) (moves : List Move) → count_by (λ m. m.group == g) moves ≤ 1 → after_moves g u p moves ≡ owner_by u p (move_in g moves)
owner_moved g u p [] one = refl
owner_moved g u p (m ∷ moves) one = by (owner_moved g u p moves) (m.group == g) refl
  where
    by : (count_by (λ x. x.group == g) moves ≤ 1 → after_moves g u p moves ≡ owner_by u p (move_in g moves)) → (b : Bool) → (m.group == g) ≡ b → after_moves g u p (m ∷ moves) ≡ owner_by u p (move_in g (m ∷ moves))
    by rest true e =
        let all : count_by (λ x. x.group == g) (m ∷ moves) ≡ 1 + count_by (λ x. x.group == g) moves = count_cons g m moves ∙ ap (λ b. cond b 1 0 + count_by (λ x. x.group == g) moves) e in
        ap (λ b. after_moves g u (cond (b && m.unit == u) m.taker p) moves) e
        ∙ unmoved g u (cond (m.unit == u) m.taker p) moves (omega (arith, all, one))
        ∙ sym (ap (λ b. owner_by u p (cond b (Some m) (move_in g moves))) e)
    by rest false e =
        let all : count_by (λ x. x.group == g) (m ∷ moves) ≡ 0 + count_by (λ x. x.group == g) moves = count_cons g m moves ∙ ap (λ b. cond b 1 0 + count_by (λ x. x.group == g) moves) e in
        ap (λ b. after_moves g u (cond (b && m.unit == u) m.taker p) moves) e
        ∙ rest (omega (arith, all, one))
        ∙ sym (ap (λ b. owner_by u p (cond b (Some m) (move_in g moves))) e)

pub owner_next : (run : Run) (plans : List (List Move)) (e g u : ℕ) → AreLawful run plans → e < length plans
    → owner run.settings.pipelines plans (e + 1) g u ≡ owner_by u (owner run.settings.pipelines plans e g u) (move_in g (slice_index_or plans e []))
owner_next run plans e g u lawful lt =
    let next : e + 1 ≡ suc e = omega arith in
    let first : ℕ = first_owner run.settings.pipelines g u in
    ap (λ n. owner run.settings.pipelines plans n g u) next
    ∙ ap (λ (xss : List (List Move)). after_moves g u first (joined xss)) (take-suc plans e [] lt)
    ∙ ap (after_moves g u first) (joined_append (take e plans) (slice_index_or plans e []))
    ∙ after_append g u first (joined (take e plans)) (slice_index_or plans e [])
    ∙ owner_moved g u (owner run.settings.pipelines plans e g u) (slice_index_or plans e []) ((lawful_plan run plans e lawful lt).single g)

-- ---- what is known of the move

pub move_found : (P : Move → Type 0) (g : ℕ) (moves : List Move) (m : Move) → All P moves → move_in g moves ≡ Some m → P m × (m.group ≡ g)
move_found P g [] m all e = absurd (cc)
move_found P g (x ∷ xs) m all e = by (move_found P g xs m (All-tail P x xs all)) (x.group == g) refl e
  where
    by : (move_in g xs ≡ Some m → P m × (m.group ≡ g)) → (b : Bool) → (x.group == g) ≡ b → cond b (Some x) (move_in g xs) ≡ Some m → P m × (m.group ≡ g)
    by rest true t k =
        let is : x ≡ m = cc in
        (subst P is (All-head P x xs all), ap (λ (y : Move). y.group) (sym is) ∙ eqb-true x.group g t)
    by rest false t k = rest k

-- its unit is one of the group, and its giver owns it
pub record IsMove (a : Site) (plans : List (List Move)) (e : ℕ) (m : Move) : Type 0 where
  pub unit : m.unit < width_at a
  pub giver : m.giver ≡ owner a.run.settings.pipelines plans e a.group m.unit

pub move_is : (a : Site) (plans : List (List Move)) (e : ℕ) (m : Move) → a.group < length a.run.code.groups → AreLawful a.run plans → e < length plans
    → move_in a.group (slice_index_or plans e []) ≡ Some m → IsMove a plans e m
move_is a plans e m there lawful lt found =
    let plan = lawful_plan a.run plans e lawful lt in
    let known = move_found (CanMove (owners_after a.run (take e plans))) a.group (slice_index_or plans e []) m plan.each found in
    record {
      unit = unit_within a m.unit there (subst (λ g. IsUnit (unit_counts a.run) g m.unit) known.1 known.0.unit);
      giver = known.0.giver ∙ ap (λ g. owner_now (owners_after a.run (take e plans)) g m.unit) known.1;
    }

-- ---- owners

pub owns_at : (a : Site) (plans : List (List Move)) (e u : ℕ) → AreLawful a.run plans → e ≤ length plans → owner a.run.settings.pipelines plans e a.group u ≡ a.pipe → OwnsAt a e u
owns_at a plans e u lawful known is = subst (λ p. Owns a.run e a.group u p) is (owns_by a.run plans e a.group u lawful known)

pub owner_at : (a : Site) (plans : List (List Move)) (e u : ℕ) → AreLawful a.run plans → e ≤ length plans → OwnsAt a e u → owner a.run.settings.pipelines plans e a.group u ≡ a.pipe
owner_at a plans e u lawful known owns = owner_is a.run plans e a.group u a.pipe lawful known owns
