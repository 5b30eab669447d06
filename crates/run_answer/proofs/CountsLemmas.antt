-- What finished pipes have served of a unit, one pipe after another.
use Rattle.std.proofs.Common.{◌≡◌, ℕ, zero, suc, ◌+◌, ◌-◌, ◌/◌, ◌<◌, ◌≤◌, ◌==◌, Bool, true, false, List, [], ◌∷◌, ◌++◌, length, take, flat_map, sum, slice_index, slice_index_or, Option, Some, None, refl, sym, ap, subst, ◌∙◌, arith, inl, inr, take-suc, mod-lt, eqb-true, cond, add-one}
use Rattle.std.proofs.lemmas.Bool.Decides.{eqb_tells}
use Rattle.std.proofs.lemmas.List.{flat_map_more, get_or-map, length-map, length-take-le}
use Rattle.std.proofs.lemmas.List.Sums.{sum_by_more, sum_by_more_le}
use Rattle.std.proofs.lemmas.Nat.{div-add-mod', le-div}
use Rattle.shard_rounds.specs.declared.plan.Move.{Move}
use Rattle.shard_rounds.specs.Rounds.{CanMove, owner}
use Rattle.code_forms.specs.Staged.{no_group, group_at, unit_count}
use Rattle.code_forms.specs.StagedMeaning.{is_place}
use Rattle.run_laws.specs.Run.{Run, arrivals, round_of, place_of, load_below, unit_counts}
use Rattle.run_laws.specs.LawfulPlans.{AreLawful, AreAllPlans, row_below, load_rows, owners_after}
use Rattle.run_laws.proofs.PlanLemmas.{owns_by, owns_once}
use Rattle.group_station.specs.Station.{Station, Site, site, width, width_at, IsGiven, IsReached, by_floor, by_place, Counted, none, more, same, IsStation}
use Rattle.group_station.specs.Steps.{first_station, move_in}
use Rattle.group_station.proofs.MoveLemmas.{lawful_plan, owner_by, owner_next, move_found}
use Rattle.pipe_stations.specs.RowSteps.{IsStationFinished}
use Rattle.pipe_worker.specs.Pipe.{Pipe, station}
use Rattle.pipe_worker.specs.Laws.{IsPipe}
use Rattle.switch_worker.specs.Worker.{Worker}
use Rattle.switch_worker.specs.Finished.{IsFinished, AreFinished}

-- ---- a finished station

-- its front is past all arrivals
pub finished_front : (s : Station) → (station : IsStation s) → IsStationFinished s → station.front ≡ arrivals s.run
finished_front s station done = by station.is_front.reached
  where
    by : IsReached s.queue station.front → station.front ≡ arrivals s.run
    by (by_floor source lt e) = sym e ∙ done.floors source lt
    by (by_place p later e early) = absurd (let none = sym e ∙ done.served in cc)

-- a pipe of a run, and what stands at a group of it
abbrev pub site_of : Run → ℕ → ℕ → Site
site_of run p g = record { run = run; pipe = p; group = g }

-- what is known of the station of a group at a finished pipe
pub record IsDone (run : Run) (p g : ℕ) (s : Station) : Type 0 where
  pub site : site s ≡ site_of run p g
  pub station : IsStation s
  pub done : IsStationFinished s

pub site_is : (run : Run) (p g : ℕ) (s : Pipe) → IsFinished run p s → IsPipe s → g < length run.code.groups → site (station s g) ≡ site_of run p g
site_is run p g s finished pipe lt = finished.row.sites g here ∙ (λ i. site_of (run_is i) (number_is i) g)
  where
    run_is : s.row.run ≡ run
    run_is = pipe.whole.run ∙ finished.of_run

    number_is : s.row.pipe ≡ p
    number_is = pipe.whole.number ∙ finished.is_number

    here : g < length s.row.stations
    here = let all = finished.row.all in let same = ap (λ (r : Run). length r.code.groups) run_is in omega (arith, all, same, lt)

pub is_done : (run : Run) (p g : ℕ) (s : Pipe) → IsFinished run p s → IsPipe s → IsStation (station s g) → g < length run.code.groups → IsDone run p g (station s g)
is_done run p g s finished pipe is lt = record {
  site = site_is run p g s finished pipe lt;
  station = is;
  done = finished.stations g (first_station s.row.run s.row.pipe g) here;
}
  where
    run_is : s.row.run ≡ run
    run_is = pipe.whole.run ∙ finished.of_run

    number_is : s.row.pipe ≡ p
    number_is = pipe.whole.number ∙ finished.is_number

    here : g < length s.row.stations
    here = let all = finished.row.all in let same = ap (λ (r : Run). length r.code.groups) run_is in omega (arith, all, same, lt)

-- ---- what the first pipes serve

-- the arrival has its place in the unit, and one of the first pipes serves it
pub record IsGivenBelow (run : Run) (g u p t : ℕ) : Type 0 where
  pub pipe : ℕ
  pub before : pipe < p
  pub given : IsGiven (site_of run pipe g) t u

-- so many of the first arrivals are served by the first pipes
abbrev pub ServedBelow : Run → ℕ → ℕ → ℕ → ℕ → ℕ → Type 0
ServedBelow run g u p t n = Counted (IsGivenBelow run g u p) t n

-- no pipe serves none
pub served_none : (run : Run) (g u t : ℕ) → ServedBelow run g u 0 t 0
served_none run g u zero = none
served_none run g u (suc t) = same (λ given. (let lt = given.before in absurd (omega (arith, lt)))) (served_none run g u t)

-- two pipes don't serve one arrival
apart : (run : Run) (g u p t : ℕ) → IsGivenBelow run g u p t → IsGiven (site_of run p g) t u → ⊥
apart run g u p t below given =
    let is : below.pipe ≡ p = owns_once run (round_of run t) g u below.pipe p below.given.owned given.owned in
    let lt = below.before in
    omega (arith, is, lt)

wider : (run : Run) (g u p t : ℕ) → IsGivenBelow run g u p t → IsGivenBelow run g u (suc p) t
wider run g u p t below = record { pipe = below.pipe; before = (let lt = below.before in omega (arith, lt)); given = below.given }

neither : (run : Run) (g u p t : ℕ) → (IsGivenBelow run g u p t → ⊥) → (IsGiven (site_of run p g) t u → ⊥) → IsGivenBelow run g u (suc p) t → ⊥
neither run g u p t others own given = elim (eqb_tells given.pipe p) [
  | inl is ↦ own (subst (λ q. IsGiven (site_of run q g) t u) is.1 given.given)
  | inr other ↦ (
      let lt = given.before in
      let no = other.1 in
      let less : given.pipe < p = grind (arith, lt, no) in
      others (record { pipe = given.pipe; before = less; given = given.given }))
]

-- one pipe more
pub served_more : (run : Run) (g u p t m n : ℕ) → ServedBelow run g u p t m → Counted (λ s. IsGiven (site_of run p g) s u) t n → ServedBelow run g u (suc p) t (m + n)
served_more run g u p zero m n none none = none
served_more run g u p (suc t) (suc m) (suc n) (more a c) (more b d) = absurd (apart run g u p t a b)
served_more run g u p (suc t) (suc m) n (more a c) (same b d) =
    subst (ServedBelow run g u (suc p) (suc t)) (let k : suc (m + n) ≡ suc m + n = omega arith in k)
    (more (wider run g u p t a) (served_more run g u p t m n c d))
served_more run g u p (suc t) m (suc n) (same a c) (more b d) =
    subst (ServedBelow run g u (suc p) (suc t)) (let k : suc (m + n) ≡ m + suc n = omega arith in k)
    (more (record { pipe = p; before = omega arith; given = b }) (served_more run g u p t m n c d))
served_more run g u p (suc t) m n (same a c) (same b d) = same (neither run g u p t a b) (served_more run g u p t m n c d)

-- ---- all pipes

-- the owner of a unit by lawful plans is a pipe
pub owner_below : (run : Run) (plans : List (List Move)) (g u e : ℕ) → AreLawful run plans → e ≤ length plans → owner run.settings.pipelines plans e g u < run.settings.pipelines
owner_below run plans g u zero lawful reach = mod-lt (u + g) (let some = run.settings.some_pipeline in omega arith)
owner_below run plans g u (suc e) lawful reach =
    let next : e + 1 ≡ suc e = omega arith in
    subst (λ n. owner run.settings.pipelines plans n g u < run.settings.pipelines) next
    (subst (λ o. o < run.settings.pipelines) (sym (owner_next run plans e g u lawful (omega (arith, reach))))
    (by (owner_below run plans g u e lawful (omega (arith, reach))) (move_in g (slice_index_or plans e [])) refl))
  where
    by : owner run.settings.pipelines plans e g u < run.settings.pipelines → (m : Option Move) → move_in g (slice_index_or plans e []) ≡ m → owner_by u (owner run.settings.pipelines plans e g u) m < run.settings.pipelines
    by before None found = before
    by before (Some m) found = chosen (m.unit == u)
      where
        taken : m.taker < run.settings.pipelines
        taken = (move_found (CanMove (owners_after run (take e plans))) g (slice_index_or plans e []) m (lawful_plan run plans e lawful (omega (arith, reach))).each found).0.taker

        chosen : (b : Bool) → cond b m.taker (owner run.settings.pipelines plans e g u) < run.settings.pipelines
        chosen true = taken
        chosen false = before

-- an arrival with its place in the unit is served at some pipe
pub some_serves : (run : Run) (plans : List (List Move)) (g u t : ℕ) → AreAllPlans run plans → t < arrivals run → place_of run t g ≡ Some u → IsGivenBelow run g u run.settings.pipelines t
some_serves run plans g u t all lt place = record {
  pipe = owner run.settings.pipelines plans (round_of run t) g u;
  before = owner_below run plans g u (round_of run t) all.lawful reach;
  given = record { there = lt; place = place; owned = owns_by run plans (round_of run t) g u all.lawful reach };
}
  where
    some : 0 < run.settings.round
    some = let some = run.settings.some_round in omega arith

    reach : round_of run t ≤ length plans
    reach =
        let last = all.all in
        let split = div-add-mod' t run.settings.round in
        let most : t / run.settings.round ≤ (arrivals run - 1) / run.settings.round = le-div (t / run.settings.round) (arrivals run - 1) run.settings.round some (omega (arith, lt, split)) in
        omega (arith, last, most)

place_is : (place : Option ℕ) (u : ℕ) → is_place place u ≡ true → place ≡ Some u
place_is None u e = absurd (cc)
place_is (Some v) u e = ap Some (eqb-true v u e)

is_own : (u : ℕ) → is_place (Some u) u ≡ true
is_own u = elim (eqb_tells u u) [ inl t ↦ t.0 | inr t ↦ absurd (t.1 refl) ]

-- so all pipes together serve each place
pub served_all : (run : Run) (plans : List (List Move)) (g u t n : ℕ) → AreAllPlans run plans → t ≤ arrivals run → ServedBelow run g u run.settings.pipelines t n → n ≡ load_below run g u t
served_all run plans g u zero n all le none = refl
served_all run plans g u (suc t) (suc n) all le (more given c) =
    let rest = served_all run plans g u t n all (omega (arith, le)) c in
    let here : is_place (place_of run t g) u ≡ true = ap (λ o. is_place o u) given.given.place ∙ is_own u in
    let one : ◌≡◌ {A = ℕ} (cond (is_place (place_of run t g) u) 1 0) 1 = ap (λ b. cond b 1 0) here in
    omega (arith, rest, one)
served_all run plans g u (suc t) n all le (same not' c) =
    let rest = served_all run plans g u t n all (omega (arith, le)) c in
    by rest (is_place (place_of run t g) u) refl
  where
    by : n ≡ load_below run g u t → (b : Bool) → is_place (place_of run t g) u ≡ b → n ≡ load_below run g u t + cond (is_place (place_of run t g) u) 1 0
    by rest true e = absurd (not' (some_serves run plans g u t all (omega (arith, le)) (place_is (place_of run t g) u e)))
    by rest false e =
        let none : ◌≡◌ {A = ℕ} (cond (is_place (place_of run t g) u) 1 0) 0 = ap (λ b. cond b 1 0) e in
        omega (arith, rest, none)

-- ---- a worker

pub finished_at : (run : Run) (workers : List Worker) (p : ℕ) (w : Worker) (s : Pipe) → AreFinished run workers → p < length workers → w ≡ slice_index_or workers p w → s ≡ w.pipe → IsFinished run p s
finished_at run workers p w s are lt is e = subst (IsFinished run p) (ap (λ (x : Worker). x.pipe) (sym is) ∙ sym e) (are.each p w lt)

pub width_is : (run : Run) (p g : ℕ) (s : Pipe) → IsFinished run p s → IsPipe s → g < length run.code.groups → width (station s g) ≡ unit_count run.code (group_at run.code g)
width_is run p g s finished pipe lt = ap width_at (site_is run p g s finished pipe lt)

-- what a pipe more serves
pub count_more : (run : Run) (p g u m n : ℕ) (s : Pipe) → IsFinished run p s → IsPipe s → IsStation (station s g) → g < length run.code.groups → u < unit_count run.code (group_at run.code g)
    → n ≡ slice_index (station s g).served u → ServedBelow run g u p (arrivals run) m → ServedBelow run g u (suc p) (arrivals run) (m + n)
count_more run p g u m n s finished pipe is lt within e before =
    served_more run g u p (arrivals run) m n before
    (subst (λ k. Counted (λ t. IsGiven (site_of run p g) t u) (arrivals run) k) (sym e)
    (subst (λ f. Counted (λ t. IsGiven (site_of run p g) t u) f (slice_index (station s g).served u)) front
    (subst (λ a. Counted (λ t. IsGiven a t u) is.front (slice_index (station s g).served u)) (site_is run p g s finished pipe lt)
    (is.laws.counts.counts u (let wide = width_is run p g s finished pipe lt in omega (arith, wide, within))))))
  where
    done : IsDone run p g (station s g)
    done = is_done run p g s finished pipe is lt

    front : is.front ≡ arrivals run
    front = finished_front (station s g) is done.done ∙ ap (λ (a : Site). arrivals a.run) done.site

pub count_fits : (run : Run) (p g : ℕ) (s : Pipe) → IsFinished run p s → IsPipe s → IsStation (station s g) → g < length run.code.groups → arrivals run ≤ 262144
count_fits run p g s finished pipe is lt =
    let few = is.of_run.listed.arrivals in
    let all = is.of_run.arrivals in
    let same = ap (λ (a : Site). arrivals a.run) (site_is run p g s finished pipe lt) in
    omega (arith, few, all, same)

-- ---- group by group

-- the loads of one group more
rows_more : (run : Run) (t g : ℕ) (xs : List ℕ) (y : ℕ) → load_rows run t g (xs ++ y ∷ []) ≡ load_rows run t g xs ++ row_below (λ u. load_below run (g + length xs) u t) y ∷ []
rows_more run t g [] y = ap (λ h. row_below (λ u. load_below run h u t) y ∷ []) (let k : g ≡ g + 0 = omega arith in k)
rows_more run t g (x ∷ xs) y =
    ap (λ (rest : List (List ℕ)). row_below (λ u. load_below run g u t) x ∷ rest)
    (rows_more run t (suc g) xs y ∙ ap (λ h. load_rows run t (suc g) xs ++ row_below (λ u. load_below run h u t) y ∷ []) (let k : suc g + length xs ≡ g + suc (length xs) = omega arith in k))

-- the counts of the first groups, by group and unit
abbrev pub first_counts : Run → ℕ → List ℕ
first_counts run g = flat_map (λ row. row) (load_rows run (arrivals run) 0 (take g (unit_counts run)))

-- how often each unit of a group is served
abbrev pub group_counts : Run → ℕ → List ℕ
group_counts run g = row_below (λ u. load_below run g u (arrivals run)) (unit_count run.code (group_at run.code g))

-- how many units the first groups have
abbrev pub first_units : Run → ℕ → ℕ
first_units run g = sum (take g (unit_counts run))

module _ (run : Run) (g : ℕ) (lt : g < length run.code.groups) where
  known : g < length (unit_counts run)
  known = let long = length-map run.code.groups (unit_count run.code) in omega (arith, long, lt)

  count_at : slice_index (unit_counts run) g ≡ unit_count run.code (group_at run.code g)
  count_at = get_or-map (unit_count run.code) run.code.groups g no_group 0 lt

  -- a group's units are within those of all groups
  pub units_fit : first_units run g + unit_count run.code (group_at run.code g) ≤ sum (unit_counts run)
  units_fit = subst (λ n. first_units run g + n ≤ sum (unit_counts run)) count_at (sum_by_more_le (λ k. k) (unit_counts run) g 0 known)

  -- one group more
  pub units_more : first_units run g + unit_count run.code (group_at run.code g) ≡ first_units run (g + 1)
  units_more = sym (sum_by_more (λ k. k) (unit_counts run) g 0 known ∙ ap (λ n. first_units run g + n) count_at)

  pub counts_more : first_counts run g ++ group_counts run g ≡ first_counts run (g + 1)
  counts_more = flat_map_more (λ row. row) [] (load_rows run (arrivals run) 0 (take g (unit_counts run))) (group_counts run g) ∙ ap (flat_map (λ row. row)) (sym rows)
    where
      before : 0 + length (take g (unit_counts run)) ≡ g
      before = let long = length-take-le g (unit_counts run) (omega (arith, known)) in omega (arith, long)

      rows : load_rows run (arrivals run) 0 (take (g + 1) (unit_counts run)) ≡ load_rows run (arrivals run) 0 (take g (unit_counts run)) ++ group_counts run g ∷ []
      rows =
          ap (load_rows run (arrivals run) 0) (ap (λ n. take n (unit_counts run)) (add-one g) ∙ take-suc (unit_counts run) g 0 known)
          ∙ rows_more run (arrivals run) 0 (take g (unit_counts run)) (slice_index (unit_counts run) g)
          ∙ (λ i. load_rows run (arrivals run) 0 (take g (unit_counts run)) ++ row_below (λ u. load_below run (before i) u (arrivals run)) (count_at i) ∷ [])
