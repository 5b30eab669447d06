-- The accesses of finished workers.
use Rattle.std.proofs.Common.{◌≡◌, ℕ, suc, ◌+◌, ◌-◌, ◌*◌, ◌/◌, ◌<◌, ◌≤◌, List, [], ◌∷◌, ◌++◌, length, slice_index, Option, Some, None, sym, ap, subst, ◌∙◌, inl, inr, arith, length-append}
use Rattle.std.proofs.Math.Nat.{mul-le-mul_right, div-mul-le_self}
use Rattle.std.proofs.Math.ListN.{get_or-append}
use Rattle.std.proofs.lemmas.List.{get_or-append_right}
use Rattle.std.proofs.lemmas.Nat.{le-div}
use Rattle.std.proofs.lemmas.Bool.Decides.{leb_tells}
use Rattle.shard_rounds.specs.declared.plan.Move.{Move}
use Rattle.pipe_parts.specs.EntryList.{entry_of}
use Rattle.egress_order.specs.OwnPackets.{IsExit}
use Rattle.run_laws.specs.Run.{Run, arrivals, home_of, place_of, round_of, last_round}
use Rattle.run_laws.specs.LawfulPlans.{AreAllPlans}
use Rattle.run_laws.specs.Trace.{served_at, served_by, touched_there}
use Rattle.run_laws.proofs.PlanLemmas.{owner_is}
use Rattle.packet_steps.specs.Packet.{IsServer, HasEntry}
use Rattle.pipe_worker.specs.Pipe.{Pipe}
use Rattle.pipe_worker.specs.Laws.{IsPipe}
use Rattle.switch_worker.specs.Finished.{IsFinished}
use Rattle.run_answer.specs.Results.{AreEntries, AreEntriesTo}
use Rattle.run_answer.proofs.PacketsLemmas.{came_home_all}

-- what a finished pipe says of an own arrival at a group
pub home_entry : (run : Run) (s : Pipe) (t g by set : ℕ) → IsFinished run (home_of run t) s → IsPipe s → IsExit s.door.exit → t < arrivals run → g < length run.code.groups
    → by ≡ slice_index (entry_of s.door.entries (t / s.run.settings.pipelines)).by g → set ≡ slice_index (entry_of s.door.entries (t / s.run.settings.pipelines)).touched g → HasEntry run t g by set
home_entry run s t g by set done pipe counts early less by_is set_is =
    let there : HasEntry s.run t g (slice_index (entry_of s.door.entries (t / s.run.settings.pipelines)).by g) (slice_index (entry_of s.door.entries (t / s.run.settings.pipelines)).touched g) =
    (came_home_all run s t done pipe counts early).entries g (subst (λ (r : Run). g < length r.code.groups) (sym done.of_run) less) in
    subst (λ (n : ℕ). HasEntry run t g n set) (sym by_is)
    (subst (λ (n : ℕ). HasEntry run t g (slice_index (entry_of s.door.entries (t / s.run.settings.pipelines)).by g) n) (sym set_is)
    (subst (λ (r : Run). HasEntry r t g (slice_index (entry_of s.door.entries (t / s.run.settings.pipelines)).by g) (slice_index (entry_of s.door.entries (t / s.run.settings.pipelines)).touched g)) done.of_run there))

-- ---- lists

-- a number that is appended stands last
pushed_last : (xs : List ℕ) (x k : ℕ) → length xs ≡ k → slice_index (xs ++ x ∷ []) k ≡ x
pushed_last xs x k long =
    let none : k - k ≡ 0 = omega arith in
    get_or-append_right xs (x ∷ []) k k 0 long (omega arith) ∙ ap (λ n. slice_index (x ∷ []) n) none

-- and those before it stay
pushed_before : (xs : List ℕ) (x k : ℕ) → k < length xs → slice_index (xs ++ x ∷ []) k ≡ slice_index xs k
pushed_before xs x k less = get_or-append xs (x ∷ []) 0 k less

-- a number within a row is before every number in a later row
not_later : (n t g u h : ℕ) → h < n → u * n + h ≡ t * n + g → u < t → ⊥
not_later n t g u h less same before =
    let rows : suc u * n ≤ t * n = mul-le-mul_right n before in
    absurd (omega arith)

-- so a number stands in one row
same_row : (n t g u h : ℕ) → g < n → h < n → u * n + h ≡ t * n + g → u ≡ t
same_row n t g u h less_g less_h same =
    let one = not_later n t g u h less_h same in
    let two = not_later n u h t g less_g (sym same) in
    omega (arith, one, two)

-- at one place
same_place : (n t g u h : ℕ) → u ≡ t → u * n + h ≡ t * n + g → h ≡ g
same_place n t g u h row same = let rows : u * n ≡ t * n = ap (λ k. k * n) row in omega arith

-- ---- the accesses of the first arrivals and groups

pub entries_none : (run : Run) (by touched : List ℕ) → by ≡ [] → touched ≡ [] → AreEntriesTo run 0 0 by touched
entries_none run by touched is_by is_touched = record {
  served = let none = ap length is_by in omega arith;
  arrays = let none = ap length is_touched in omega arith;
  each = λ u h less before. absurd (omega arith);
}

-- one access more
pub entries_step : (run : Run) (t g by set : ℕ) (old_by old_touched new_by new_touched : List ℕ) → g < length run.code.groups → HasEntry run t g by set → AreEntriesTo run t g old_by old_touched
    → new_by ≡ old_by ++ by ∷ [] → new_touched ≡ old_touched ++ set ∷ [] → AreEntriesTo run t (g + 1) new_by new_touched
entries_step run t g by set old_by old_touched new_by new_touched less entry is by_is touched_is = record {
  served = let all = length-append old_by (by ∷ []) in let old = is.served in let new = ap length by_is in omega arith;
  arrays = let all = length-append old_touched (set ∷ []) in let old = is.arrays in let new = ap length touched_is in omega arith;
  each = λ u h less_h before. elim (leb_tells (t * length run.code.groups + g) (u * length run.code.groups + h)) [ inl c ↦ last u h less_h (omega (arith, c.1, before)) | inr c ↦ earlier u h less_h c.1 ];
}
  where
    earlier : (u h : ℕ) → h < length run.code.groups → u * length run.code.groups + h < t * length run.code.groups + g
        → HasEntry run u h (slice_index new_by (u * length run.code.groups + h)) (slice_index new_touched (u * length run.code.groups + h))
    earlier u h less_h before =
        subst (λ (n : ℕ). HasEntry run u h n (slice_index new_touched (u * length run.code.groups + h)))
        (sym (ap (λ xs. slice_index xs (u * length run.code.groups + h)) by_is ∙ pushed_before old_by by (u * length run.code.groups + h) (let old = is.served in omega arith)))
        (subst (λ (n : ℕ). HasEntry run u h (slice_index old_by (u * length run.code.groups + h)) n)
        (sym (ap (λ xs. slice_index xs (u * length run.code.groups + h)) touched_is ∙ pushed_before old_touched set (u * length run.code.groups + h) (let old = is.arrays in omega arith)))
        (is.each u h less_h before))

    last : (u h : ℕ) → h < length run.code.groups → u * length run.code.groups + h ≡ t * length run.code.groups + g
        → HasEntry run u h (slice_index new_by (u * length run.code.groups + h)) (slice_index new_touched (u * length run.code.groups + h))
    last u h less_h same =
        let row : u ≡ t = same_row (length run.code.groups) t g u h less less_h same in
        let place : h ≡ g = same_place (length run.code.groups) t g u h row same in
        subst (λ (n : ℕ). HasEntry run u h n (slice_index new_touched (u * length run.code.groups + h)))
        (sym (ap (λ xs. slice_index xs (u * length run.code.groups + h)) by_is ∙ pushed_last old_by by (u * length run.code.groups + h) (is.served ∙ sym same)))
        (subst (λ (n : ℕ). HasEntry run u h by n)
        (sym (ap (λ xs. slice_index xs (u * length run.code.groups + h)) touched_is ∙ pushed_last old_touched set (u * length run.code.groups + h) (is.arrays ∙ sym same)))
        (subst (λ (k : ℕ). HasEntry run k h by set) (sym row) (subst (λ (k : ℕ). HasEntry run t k by set) (sym place) entry)))

-- behind the last group of an arrival the next arrival begins
pub entries_next : (run : Run) (t g : ℕ) (by touched : List ℕ) → g ≡ length run.code.groups → AreEntriesTo run t g by touched → AreEntriesTo run (t + 1) 0 by touched
entries_next run t g by touched all is = record {
  served = is.served ∙ rows;
  arrays = is.arrays ∙ rows;
  each = λ u h less before. is.each u h less (subst (λ n. u * length run.code.groups + h < n) (sym rows) before);
}
  where
    rows : t * length run.code.groups + g ≡ (t + 1) * length run.code.groups + 0
    rows = let more : suc t * length run.code.groups ≡ t * length run.code.groups + length run.code.groups = omega arith in omega arith

-- the accesses of all arrivals
pub entries_all : (run : Run) (t : ℕ) (by touched : List ℕ) → t ≡ arrivals run → AreEntriesTo run t 0 by touched → AreEntries run by touched
entries_all run t by touched all is = record {
  served = is.served ∙ rows;
  arrays = is.arrays ∙ rows;
  each = λ u h early less. is.each u h less (within u h early less);
}
  where
    rows : t * length run.code.groups + 0 ≡ arrivals run * length run.code.groups
    rows = let same : t * length run.code.groups ≡ arrivals run * length run.code.groups = ap (λ n. n * length run.code.groups) all in omega arith

    within : (u h : ℕ) → u < arrivals run → h < length run.code.groups → u * length run.code.groups + h < t * length run.code.groups + 0
    within u h early less =
        let most : suc u * length run.code.groups ≤ arrivals run * length run.code.groups = mul-le-mul_right (length run.code.groups) early in
        let all = rows in
        omega arith

-- one access more has room where those of all arrivals have
pub entry_room : (run : Run) (t g room : ℕ) (xs : List ℕ) → t < arrivals run → g < length run.code.groups → length xs ≡ t * length run.code.groups + g → arrivals run * length run.code.groups ≤ room → length xs < room
entry_room run t g room xs early less long all =
    let most : suc t * length run.code.groups ≤ arrivals run * length run.code.groups = mul-le-mul_right (length run.code.groups) early in
    omega arith

-- ---- the accesses by the plans of the run

-- the round of an arrival is at most the last
round_within : (run : Run) (t : ℕ) → t < arrivals run → round_of run t ≤ last_round run
round_within run t early =
    let some = run.settings.some_round in
    le-div (round_of run t) (arrivals run - 1) run.settings.round (omega arith) (let whole = div-mul-le_self t run.settings.round in omega arith)

-- who serves an arrival, by all plans
served_is : (run : Run) (plans : List (List Move)) (t g by : ℕ) (o : Option ℕ) → AreAllPlans run plans → t < arrivals run → IsServer run t g o by → by ≡ served_at run plans t g o
served_is run plans t g by None all early is = is
served_is run plans t g by (Some u) all early is =
    sym (owner_is run plans (round_of run t) g u by all.lawful (let most = round_within run t early in let long = all.all in omega arith) is)

-- the entries are those of the run's plans
pub entries_by : (run : Run) (plans : List (List Move)) (by touched : List ℕ) → AreAllPlans run plans → AreEntries run by touched → (t g : ℕ) → t < arrivals run → g < length run.code.groups
    → (slice_index by (t * length run.code.groups + g) ≡ served_by run plans t g) × (slice_index touched (t * length run.code.groups + g) ≡ touched_there run t g)
entries_by run plans by touched all are t g early less =
    let entry = are.each t g early less in
    (served_is run plans t g (slice_index by (t * length run.code.groups + g)) (place_of run t g) all early entry.served, entry.touched)
