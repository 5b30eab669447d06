-- The lawful plans of a run: each is a plan of the owners before it, and the next choice makes one more.
use Rattle.std.proofs.Common.{◌≡◌, ℕ, zero, suc, ◌+◌, ◌-◌, ◌*◌, ◌<◌, ◌==◌, ◌⊎◌, true, false, List, [], ◌∷◌, ◌++◌, length, take, slice_index, slice_index_or, refl, sym, ap, subst, ◌∙◌, inl, inr, arith, length-append}
use Rattle.std.proofs.Math.ListN.{get_or-append}
use Rattle.std.proofs.lemmas.Bool.Decides.{eqb_tells}
use Rattle.std.proofs.lemmas.List.{take-append-le, take_all, get_or-append_right}
use Rattle.shard_rounds.specs.declared.plan.Move.{Move}
use Rattle.shard_rounds.specs.Rounds.{IsPlan}
use Rattle.shard_rounds.specs.Holding.{row_at}
use Rattle.shard_rounds.specs.Choice.{IsChoice, AreOverSame}
use Rattle.shard_rounds.proofs.Choosing.{choice_plan}
use Rattle.run_laws.specs.Run.{Run, last_round, load_below, unit_counts}
use Rattle.run_laws.specs.LawfulPlans.{AreLawful, row_below, load_rows, loads_below, owners_after}

-- ---- loads and owners are over the units of the run

pub row_long : (f : ℕ → ℕ) (n : ℕ) → length (row_below f n) ≡ n
row_long f zero = refl
row_long f (suc n) =
    let rest = row_long f n in
    let all = length-append (row_below f n) (f n ∷ []) in
    omega arith

pub loads_long : (run : Run) (t g : ℕ) (counts : List ℕ) → length (load_rows run t g counts) ≡ length counts
loads_long run t g [] = refl
loads_long run t g (n ∷ counts) = ap (λ k. suc k) (loads_long run t (suc g) counts)

-- the row of a group
pub load_row : (run : Run) (t g : ℕ) (counts : List ℕ) (k : ℕ) → k < length counts
    → row_at (load_rows run t g counts) k ≡ row_below (λ u. load_below run (g + k) u t) (slice_index counts k)
load_row run t g [] k lt = absurd (omega (arith, lt))
load_row run t g (n ∷ counts) zero lt = ap (λ h. row_below (λ u. load_below run h u t) n) (omega arith)
load_row run t g (n ∷ counts) (suc k) lt =
    load_row run t (suc g) counts k (omega (arith, lt)) ∙ ap (λ h. row_below (λ u. load_below run h u t) (slice_index counts k)) (omega arith)

pub over_same : (run : Run) (t : ℕ) (plans : List (List Move)) → AreOverSame (loads_below run t) (owners_after run plans)
over_same run t plans = record {
  groups = loads_long run t 0 (unit_counts run);
  units = λ g lt.
      let long = loads_long run t 0 (unit_counts run) in
      ap length (load_row run t 0 (unit_counts run) g (omega (arith, lt, long))) ∙ row_long (λ u. load_below run (0 + g) u t) (slice_index (unit_counts run) g);
}

-- ---- plans

-- each plan of a lawful list is one of the owners before it
pub lawful_plan : (run : Run) (plans : List (List Move)) (e : ℕ) → AreLawful run plans → e < length plans → IsPlan (owners_after run (take e plans)) (slice_index_or plans e [])
lawful_plan run plans e lawful lt =
    choice_plan (loads_below run (e * run.settings.round)) (owners_after run (take e plans)) (slice_index_or plans e [])
    (over_same run (e * run.settings.round) (take e plans)) (lawful.chosen e lt)

-- no plans are lawful
pub none_lawful : (run : Run) → AreLawful run []
none_lawful run = record { few = omega arith; chosen = λ e lt. absurd (omega (arith, lt)) }

-- the moves are the choice of a number by these plans before it
abbrev Chosen : Run → ℕ → List (List Move) → List Move → Type 0
Chosen run e before here = IsChoice (loads_below run (e * run.settings.round)) (owners_after run before) here

-- the next choice behind lawful plans makes lawful plans
pub lawful_more : (run : Run) (plans : List (List Move)) (moves : List Move) → AreLawful run plans → length plans < last_round run
    → IsChoice (loads_below run (length plans * run.settings.round)) (owners_after run plans) moves → AreLawful run (plans ++ moves ∷ [])
lawful_more run plans moves lawful more choice = record { few = omega (arith, long, more); chosen = λ e lt. by e lt (eqb_tells e (length plans)) }
  where
    long : length (plans ++ moves ∷ []) ≡ length plans + 1
    long = length-append plans (moves ∷ [])

    last : slice_index_or (plans ++ moves ∷ []) (length plans) [] ≡ moves
    last =
        let none : length plans - length plans ≡ 0 = omega arith in
        get_or-append_right plans (moves ∷ []) (length plans) (length plans) [] refl (omega arith) ∙ ap (λ k. slice_index_or (moves ∷ []) k []) none

    all : take (length plans) (plans ++ moves ∷ []) ≡ plans
    all = take-append-le (length plans) plans (moves ∷ []) (omega arith) ∙ take_all (length plans) plans (omega arith)

    by : (e : ℕ) → e < length (plans ++ moves ∷ []) → (((e == length plans) ≡ true) × (e ≡ length plans)) ⊎ (((e == length plans) ≡ false) × (e ≡ length plans → ⊥))
        → Chosen run e (take e (plans ++ moves ∷ [])) (slice_index_or (plans ++ moves ∷ []) e [])
    by e lt (inl here) =
        subst (λ k. Chosen run k (take k (plans ++ moves ∷ [])) (slice_index_or (plans ++ moves ∷ []) k [])) (sym here.1)
        (subst (λ (x : List (List Move) × List Move). Chosen run (length plans) x.0 x.1) (λ i. (sym all i, sym last i)) choice)
    by e lt (inr other) =
        let apart : e ≡ length plans → ⊥ = other.1 in
        let before : e < length plans = omega (arith, lt, long, apart) in
        let front : take e (plans ++ moves ∷ []) ≡ take e plans = take-append-le e plans (moves ∷ []) (omega (arith, before)) in
        let same : slice_index_or (plans ++ moves ∷ []) e [] ≡ slice_index_or plans e [] = get_or-append plans (moves ∷ []) [] e before in
        subst (λ (x : List (List Move) × List Move). Chosen run e x.0 x.1) (λ i. (sym front i, sym same i)) (lawful.chosen e before)
