-- What stands at the end of a run.
use Rattle.std.proofs.Common.{◌≡◌, ℕ, zero, suc, ◌+◌, ◌*◌, ◌<◌, ◌≤◌, List, [], ◌∷◌, length, sum, flat_map, slice_index_or, refl, sym, ap, subst, ◌∙◌, arith}
use Rattle.std.proofs.lemmas.List.{length-append}
use Rattle.std.proofs.lemmas.List.Sums.{sum_by-cons}
use Rattle.code_forms.specs.Staged.{HasSizes}
use Rattle.shard_rounds.specs.declared.plan.Move.{Move}
use Rattle.shard_rounds.specs.declared.plan.Plan.{Plan}
use Rattle.shard_rounds.specs.Rounds.{AreUnits}
use Rattle.run_laws.specs.Run.{Run, arrivals, load_below, unit_counts}
use Rattle.run_laws.specs.LawfulPlans.{AreAllPlans, row_below, load_rows}
use Rattle.round_plans.proofs.ArrivalLemmas.{units_sized}
use Rattle.run_answer.specs.Results.{AreEntries, place_counts}
use Rattle.run_answer.proofs.EntriesLemmas.{entries_by}
use Rattle.switch_net.specs.Answer.{moves_of, AreServed}
use Rattle.switch_net.specs.Building.{ArePlanned}

-- plans with these moves, one by one
moves_by : (plans : List Plan) (made : List (List Move)) → length plans ≡ length made
    → ((e : ℕ) (p : Plan) → e < length made → (slice_index_or plans e p).moves.items ≡ slice_index_or made e []) → moves_of plans ≡ made
moves_by [] [] same each = refl
moves_by [] (m ∷ made) same each = absurd (omega (arith, same))
moves_by (p ∷ plans) [] same each = absurd (omega (arith, same))
moves_by (p ∷ plans) (m ∷ made) same each =
    let first : p.moves.items ≡ m = each 0 p (omega arith) in
    let rest : moves_of plans ≡ made = moves_by plans made (omega (arith, same)) (λ e q less. each (suc e) q (omega (arith, less))) in
    ap (λ (x : List Move). x ∷ moves_of plans) first ∙ ap (λ (xs : List (List Move)). m ∷ xs) rest

-- once all plans are decided, the plans of the answer are these
pub plans_made : (made : List (List Move)) (last : ℕ) (plans : List Plan) → ArePlanned made last plans → length made ≡ last → moves_of plans ≡ made
plans_made made last plans are all = moves_by plans made (are.size ∙ sym all) are.made

-- each access is served by the pipe that the plans name
pub are_served : (run : Run) (made plans : List (List Move)) (by touched : List ℕ) → plans ≡ made → AreAllPlans run made → AreEntries run by touched → AreServed run plans by touched
are_served run made plans by touched same all entries = record {
  by_size = entries.served;
  touched_size = entries.arrays;
  served = λ t g early there. (entries_by run plans by touched all' entries t g early there).0;
  arrays = λ t g early there. (entries_by run plans by touched all' entries t g early there).1;
}
  where
    all' : AreAllPlans run plans
    all' = subst (λ (ps : List (List Move)). AreAllPlans run ps) (sym same) all

-- ---- how many counts there are

row_long : (f : ℕ → ℕ) (n : ℕ) → length (row_below f n) ≡ n
row_long f zero = refl
row_long f (suc n) = length-append (row_below f n) (f n ∷ []) ∙ (let before = row_long f n in omega (arith, before))

rows_long : (run : Run) (t g : ℕ) (counts : List ℕ) → length (flat_map (λ row. row) (load_rows run t g counts)) ≡ sum counts
rows_long run t g [] = refl
rows_long run t g (n ∷ counts) =
    length-append (row_below (λ u. load_below run g u t) n) (flat_map (λ row. row) (load_rows run t (suc g) counts))
    ∙ (let first = row_long (λ u. load_below run g u t) n in
    let rest = rows_long run t (suc g) counts in
    let all : sum (n ∷ counts) ≡ n + sum counts = sum_by-cons (λ k. k) n counts in
    omega (arith, first, rest, all))

sum_few : (most : ℕ) (xs : List ℕ) → ((i d : ℕ) → i < length xs → slice_index_or xs i d ≤ most) → sum xs ≤ length xs * most
sum_few most [] each = omega arith
sum_few most (x ∷ xs) each =
    let first : x ≤ most = each 0 0 (omega arith) in
    let rest : sum xs ≤ length xs * most = sum_few most xs (λ i d less. each (suc i) d (omega (arith, less))) in
    let all : sum (x ∷ xs) ≡ x + sum xs = sum_by-cons (λ k. k) x xs in
    omega (arith, first, rest, all)

-- there are at most as many as there may be units in all
pub counts_few : (run : Run) (counts : List ℕ) → length run.code.groups ≤ 16 → HasSizes run.code → counts ≡ place_counts run → length counts ≤ 1048576
counts_few run counts few sizes are =
    let units : AreUnits (unit_counts run) = units_sized run.code few sizes in
    let all : sum (unit_counts run) ≤ length (unit_counts run) * 65536 = sum_few 65536 (unit_counts run) (λ i d less. (units.sizes i d less).1) in
    let long : length counts ≡ sum (unit_counts run) = ap (λ (xs : List ℕ). length xs) are ∙ rows_long run (arrivals run) 0 (unit_counts run) in
    let groups = units.groups in
    omega (arith, all, long, groups)
