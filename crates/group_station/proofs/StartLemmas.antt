-- A station before anything happened.
use Rattle.std.proofs.Common.{◌≡◌, ℕ, zero, suc, ◌+◌, ◌-◌, ◌%◌, ◌<◌, ◌≤◌, ◌==◌, ◌⊎◌, min, Bool, true, false, cond, List, [], ◌∷◌, ◌++◌, length, slice_index, replicate, Option, Some, None, refl, sym, ap, subst, ◌∙◌, inl, inr, arith, length-append, eqb-true, eq-eqb, mod-lt}
use Rattle.std.specs.List.{All}
use Rattle.std.proofs.Math.ListN.{get_or-append}
use Rattle.std.proofs.Math.Nat.{mod-le}
use Rattle.std.proofs.lemmas.List.{get_or-append_right, length-replicate}
use Rattle.std.proofs.lemmas.List.Elements.{All-nil}
use Rattle.std.proofs.lemmas.Bool.Decides.{eqb_tells}
use Rattle.code_forms.specs.declared.unit.Unit.{Unit as PlacedUnit}
use Rattle.code_forms.specs.Staged.{Staged, group_at}
use Rattle.code_forms.specs.StagedMeaning.{start_cells}
use Rattle.place_queue.specs.declared.place.Place.{Place}
use Rattle.place_queue.specs.PlaceList.{PlaceList, unannounced}
use Rattle.place_queue.proofs.Announcing.{new_lawful}
use Rattle.place_queue.proofs.Floors.{first_floors_length, first_floor}
use Rattle.shard_rounds.specs.Rounds.{first_owner}
use Rattle.run_laws.specs.Run.{Run, arrivals, units_before}
use Rattle.run_laws.specs.LawfulPlans.{AreLawful}
use Rattle.run_laws.proofs.PlanLemmas.{owner_is}
use Rattle.group_station.specs.Station.{Station, Site, site, held, width, OwnsAt, IsGiven, IsFront, by_floor, floor_for, round_start, own, IsHeld, Counted, none, AreLaws, IsOfRun, IsStation, IsAwaited}
use Rattle.group_station.specs.Steps.{first_unit, first_hand, first_station}
use Rattle.group_station.proofs.LawLemmas.{split_at}

-- ---- the units in hand

pub first_long : (c : Staged) (k pipe g n : ℕ) → length (first_hand c k pipe g n) ≡ n
first_long c k pipe g zero = refl
first_long c k pipe g (suc n) =
    let rest = first_long c k pipe g n in
    let all = length-append (first_hand c k pipe g n) (first_unit c k pipe g n ∷ []) in
    omega arith

first_at : (c : Staged) (k pipe g n u : ℕ) → u < n → held (first_hand c k pipe g n) u ≡ first_unit c k pipe g u
first_at c k pipe g zero u lt = absurd (omega arith)
first_at c k pipe g (suc n) u lt = by (λ less. first_at c k pipe g n u less) (eqb_tells u n)
  where
    by : (u < n → held (first_hand c k pipe g n) u ≡ first_unit c k pipe g u) → (((u == n) ≡ true) × (u ≡ n)) ⊎ (((u == n) ≡ false) × (u ≡ n → ⊥)) → held (first_hand c k pipe g n ++ first_unit c k pipe g n ∷ []) u ≡ first_unit c k pipe g u
    by rest (inl h) =
        let here : u ≡ n = h.1 in
        let none_left : n - n ≡ 0 = omega arith in
        let last : held (first_hand c k pipe g n ++ first_unit c k pipe g n ∷ []) n ≡ first_unit c k pipe g n =
        get_or-append_right (first_hand c k pipe g n) (first_unit c k pipe g n ∷ []) n n None (first_long c k pipe g n) (omega arith)
        ∙ ap (λ m. held (first_unit c k pipe g n ∷ []) m) none_left in
        subst (λ m. held (first_hand c k pipe g n ++ first_unit c k pipe g n ∷ []) m ≡ first_unit c k pipe g m) (sym here) last
    by rest (inr h) =
        let other : u ≡ n → ⊥ = h.1 in
        let long = first_long c k pipe g n in
        let before : u < n = omega arith in
        get_or-append (first_hand c k pipe g n) (first_unit c k pipe g n ∷ []) None u (omega (arith, long, before)) ∙ rest before

held_past : (hand : List (Option PlacedUnit)) (u : ℕ) → length hand ≤ u → held hand u ≡ None
held_past [] u past = refl
held_past (x ∷ xs) zero past = absurd (omega arith)
held_past (x ∷ xs) (suc u) past = held_past xs u (omega arith)

-- ---- who owns a unit before any plan

no_plans : (run : Run) → AreLawful run []
no_plans run = record { few = omega arith; chosen = λ e lt. absurd (omega (arith, lt)) }

pub owns_first : (a : Site) (u : ℕ) → first_owner a.run.settings.pipelines a.group u ≡ a.pipe → OwnsAt a 0 u
owns_first a u e = ([], no_plans a.run, omega arith, e)

pub first_owns : (a : Site) (u : ℕ) → OwnsAt a 0 u → first_owner a.run.settings.pipelines a.group u ≡ a.pipe
first_owns a u owns = owner_is a.run [] 0 a.group u a.pipe (no_plans a.run) (omega arith) owns

-- ---- the station

module _ (run : Run) (pipe group : ℕ) (pipe_in : pipe < run.settings.pipelines) (group_in : group < length run.code.groups)
    (wide : All (λ header. length header ≡ run.code.fields) run.headers) (few : arrivals run ≤ 262144) where
  abbrev start : Station
  start = first_station run pipe group

  some_pipelines : 1 ≤ run.settings.pipelines
  some_pipelines = omega (arith, pipe_in)

  start_of_run : IsOfRun (site start) start.queue
  start_of_run = record {
    pipe = pipe_in;
    group = group_in;
    wide = wide;
    sources = refl;
    arrivals = refl;
    window = refl;
    listed = new_lawful run.settings.pipelines run.settings.window (arrivals run) some_pipelines
        (let most = run.settings.most_pipelines in omega arith) (let most = run.settings.most_window in omega arith) few;
  }

  start_front : IsFront start.queue 0
  start_front = record {
    floors = λ s lt. omega arith;
    unserved = All-nil (λ (p : Place). 0 ≤ p.t);
    reached =
        let long = first_floors_length run.settings.pipelines (arrivals run) in
        let first = first_floor run.settings.pipelines (arrivals run) 0 some_pipelines in
        by_floor 0 (omega (arith, long, some_pipelines)) (omega (arith, first));
  }

  -- no arrival is announced
  none_announced : (t : ℕ) → t < floor_for (site start) start.queue t → ⊥
  none_announced t lt =
      let below : t % run.settings.pipelines < run.settings.pipelines = mod-lt t some_pipelines in
      let floor = first_floor run.settings.pipelines (arrivals run) (t % run.settings.pipelines) below in
      let least : t % run.settings.pipelines ≤ t = mod-le t run.settings.pipelines in
      absurd (omega (arith, floor, least, lt))

  start_unit : (u : ℕ) (unit : PlacedUnit) → held start.hand u ≡ Some unit → IsHeld (site start) 0 0 u unit
  start_unit u unit e = elim (split_at u (width start)) [
    | inl lt ↦ by (first_owner run.settings.pipelines group u == pipe) refl (sym (first_at run.code run.settings.pipelines pipe group (width start) u lt) ∙ e)
    | inr past ↦ (let long = first_long run.code run.settings.pipelines pipe group (width start) in
        let none = held_past start.hand u (omega (arith, long, past)) in absurd (cc))
  ]
    where
      by : (b : Bool) → (first_owner run.settings.pipelines group u == pipe) ≡ b → cond b (Some (record { group = group; number = u; cells = start_cells run.code (group_at run.code group) })) None ≡ Some unit → IsHeld (site start) 0 0 u unit
      by true t h =
          let is : ◌≡◌ {A = PlacedUnit} (record { group = group; number = u; cells = start_cells run.code (group_at run.code group) }) unit = cc in
          let least : 0 ≡ min 0 (round_start (site start) (0 + 1)) = omega arith in
          subst (λ x. IsHeld (site start) 0 0 u x) is (record {
            group = refl;
            number = refl;
            cells = own (owns_first (site start) u (eqb-true _ _ t)) (ap (λ n. units_before run n group u) least);
          })
      by false t h = absurd (cc)

  start_laws : AreLaws start 0
  start_laws = record {
    places = record { given = All-nil (λ (p : Place). IsGiven (site start) p.t p.unit); waiting = λ t u given lt low. absurd (none_announced t lt) };
    units = record { wide = first_long run.code run.settings.pipelines pipe group (width start); known = start_unit };
    rounds = record {
      begun = omega arith;
      last = omega arith;
      passed = λ t u given lt. absurd (omega (arith, lt));
      absent = λ u within owns away t given low lt. omega (arith, lt);
    };
    counts = record { wide = length-replicate (width start) 0; counts = λ u within. subst (Counted (λ t. IsGiven (site start) t u) 0) (sym (zero_at (width start) u)) none };
  }
    where
      zero_at : (n u : ℕ) → slice_index (replicate n 0) u ≡ 0
      zero_at zero u = refl
      zero_at (suc n) zero = refl
      zero_at (suc n) (suc u) = zero_at n u

  start_told : (u : ℕ) → u < width start → OwnsAt (site start) 0 u → held start.hand u ≡ None → None ≡ Some u
  start_told u within owns away =
      let here : first_unit run.code run.settings.pipelines pipe group u ≡ Some (record { group = group; number = u; cells = start_cells run.code (group_at run.code group) }) =
      ap (λ b. cond b (Some (record { group = group; number = u; cells = start_cells run.code (group_at run.code group) })) None) (eq-eqb _ _ (first_owns (site start) u owns)) in
      let none : first_unit run.code run.settings.pipelines pipe group u ≡ None = sym (first_at run.code run.settings.pipelines pipe group (width start) u within) ∙ away in
      absurd (cc)

  pub start_station : IsStation (first_station run pipe group) × IsAwaited (first_station run pipe group) None
  start_station = (
    record { of_run = start_of_run; front = 0; is_front = start_front; laws = start_laws },
    record { told = start_told; away = λ u e. absurd (cc) },
  )

-- from what the fields hold
pub started_at : (run : Run) (pipe group : ℕ) → pipe < run.settings.pipelines → group < length run.code.groups → All (λ header. length header ≡ run.code.fields) run.headers
    → (n m : ℕ) (q : PlaceList) (hand : List (Option PlacedUnit)) (counts : List ℕ) → n ≡ arrivals run → n ≤ 262144 → q ≡ unannounced run.settings.pipelines run.settings.window n
    → hand ≡ first_hand run.code run.settings.pipelines pipe group (width (first_station run pipe group)) → m ≡ width (first_station run pipe group) → counts ≡ replicate m 0
    → IsStation (record { run = run; pipe = pipe; group = group; queue = q; round = 0; hand = hand; served = counts })
    × IsAwaited (record { run = run; pipe = pipe; group = group; queue = q; round = 0; hand = hand; served = counts }) None
started_at run pipe group pipe_in group_in wide n m q hand counts all few queue units count zeros =
    subst (λ (s : Station). IsStation s × IsAwaited s None) (sym is) (start_station run pipe group pipe_in group_in wide (omega (arith, all, few)))
  where
    is : ◌≡◌ {A = Station} (record { run = run; pipe = pipe; group = group; queue = q; round = 0; hand = hand; served = counts }) (first_station run pipe group)
    is = (λ i. record {
      run = run;
      pipe = pipe;
      group = group;
      queue = (queue ∙ ap (unannounced run.settings.pipelines run.settings.window) all) i;
      round = 0;
      hand = units i;
      served = (zeros ∙ ap (λ (k : ℕ). replicate k 0) count) i;
    })
