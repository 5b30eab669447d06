-- A station that left a round whose all is done: own units stand at the round's end, and no given place is between it and
-- the front.
use Rattle.std.proofs.Common.{◌≡◌, ◌≢◌, ℕ, ◌+◌, ◌<◌, ◌≤◌, ◌==◌, min, Bool, true, false, cond, ℤ, List, length, slice_set, Option, Some, None, is_some, option_map, refl, sym, ap, subst, ◌∙◌, inl, inr, arith, get_or-set_same, get_or-set_other, length-set, eqb-true, eq-eqb}
use Rattle.std.proofs.lemmas.Bool.Decides.{eqb_tells}
use Rattle.code_forms.specs.declared.unit.Unit.{Unit as PlacedUnit}
use Rattle.shard_rounds.specs.declared.plan.Move.{Move}
use Rattle.shard_rounds.specs.Rounds.{OwnerTable, owner}
use Rattle.run_laws.specs.Run.{units_before}
use Rattle.group_station.specs.Station.{Station, site, width, held, in_hand, OwnsAt, IsGiven, IsFront, round_start, round_end, HasCells, own, later, HoldsUnits, KeepsRound, AreLaws, IsOfRun, IsStation, IsAwaited}
use Rattle.group_station.specs.Steps.{unit_before, AreOwnersFor, IsRoundDone, move_in, given_by, leaving, after_leaving, departing, next_moves}
use Rattle.group_station.specs.Holding.{given_hand, given_unit, awaited_by}
use Rattle.group_station.proofs.RoundLemmas.{round_high}
use Rattle.group_station.proofs.FrontLemmas.{below_front}
use Rattle.group_station.proofs.LawLemmas.{some_arrivals, front_within, own_rests}
use Rattle.group_station.proofs.ServeLemmas.{some_unit}
use Rattle.group_station.proofs.MoveLemmas.{owner_by, owner_next, IsMove, move_is, owns_at, owner_at}

module _ (s : Station) (o : OwnerTable) (f : ℕ) (of_run : IsOfRun (site s) s.queue) (front : IsFront s.queue f) (old : AreLaws s f)
    (owners : AreOwnersFor s o) (next : s.round < length o.plans) (done : IsRoundDone s) where
  abbrev end' : ℕ
  end' = round_start (site s) (s.round + 1)

  -- the front is at or past the end of the round
  past : end' ≤ f
  past = below_front s.queue end' f front done.floors done.served

  -- no given place is from there to the front
  free : (t u : ℕ) → IsGiven (site s) t u → end' ≤ t → t < f → ⊥
  free t u given low high =
      let before : t < end' = round_high s.run.settings.round t s.round (some_arrivals (site s)) (old.rounds.passed t u given high) in
      absurd (omega (arith, low, before))

  own_next : (u : ℕ) (cells : List ℤ) → OwnsAt (site s) (s.round + 1) u → cells ≡ units_before s.run end' s.group u → HasCells (site s) (s.round + 1) f u cells
  own_next u cells owns is =
      let wide : round_start (site s) (s.round + 1) ≤ round_start (site s) (s.round + 1 + 1) = omega arith in
      let within = front_within (site s) s.queue f of_run front in
      own owns (is ∙ sym (own_rests (site s) (s.round + 1) u end' (min f (round_start (site s) (s.round + 1 + 1))) owns (omega (arith, wide, past)) (omega (arith, within)) (omega arith) (omega arith)
      (λ t given low high. free t u given low (omega (arith, high)))))

  -- the owner then, by the move of the group
  then_owner : (u : ℕ) → owner s.run.settings.pipelines o.plans (s.round + 1) s.group u ≡ owner_by u (owner s.run.settings.pipelines o.plans s.round s.group u) (move_in s.group (next_moves s o))
  then_owner u = owner_next s.run o.plans s.round s.group u owners.lawful next

  owner_here : (u : ℕ) → OwnsAt (site s) s.round u → owner s.run.settings.pipelines o.plans s.round s.group u ≡ s.pipe
  owner_here u owns = owner_at (site s) o.plans s.round u owners.lawful owners.known owns

  owns_then : (u : ℕ) → owner_by u (owner s.run.settings.pipelines o.plans s.round s.group u) (move_in s.group (next_moves s o)) ≡ s.pipe → OwnsAt (site s) (s.round + 1) u
  owns_then u is = owns_at (site s) o.plans (s.round + 1) u owners.lawful (omega (arith, next)) (then_owner u ∙ is)

  -- cells of a unit that this pipe doesn't give
  kept_cells : (u : ℕ) (cells : List ℤ) → (OwnsAt (site s) s.round u → OwnsAt (site s) (s.round + 1) u) → HasCells (site s) s.round f u cells → HasCells (site s) (s.round + 1) f u cells
  kept_cells u cells stays (own owns is) =
      let least : min f end' ≡ end' = omega (arith, past) in
      own_next u cells (stays owns) (is ∙ ap (λ n. units_before s.run n s.group u) least)
  kept_cells u cells stays (later d n behind is) = elim (eqb_tells d (s.round + 1)) [
    | inl h ↦ own_next u cells (subst (λ e. OwnsAt (site s) e u) h.1 n.owned) (is ∙ ap (λ e. units_before s.run (round_start (site s) e) s.group u) h.1)
    | inr h ↦ (let other : d ≢ s.round + 1 = h.1 in
        later d (record { owned = n.owned; from = omega (arith, behind); first = λ e low lt. n.first e (omega (arith, low)) lt }) (omega (arith, behind, other)) is)
  ]

  -- ---- any hand without the unit that is given

  module _ (hand : List (Option PlacedUnit)) (long : length hand ≡ length s.hand)
      (same : (u : ℕ) (unit : PlacedUnit) → held hand u ≡ Some unit → (held s.hand u ≡ Some unit) × (OwnsAt (site s) s.round u → OwnsAt (site s) (s.round + 1) u)) where
    left_units : HoldsUnits (site s) (s.round + 1) hand f
    left_units = record {
      wide = long ∙ old.units.wide;
      known = λ u unit e. let was = same u unit e in let k = old.units.known u unit was.0 in record { group = k.group; number = k.number; cells = kept_cells u unit.cells was.1 k.cells };
    }

    left_rounds : KeepsRound (site s) (s.round + 1) hand f
    left_rounds = record {
      begun = past;
      last = let few = owners.lawful.few in omega (arith, few, next);
      passed = λ t u given high. let before = old.rounds.passed t u given high in omega (arith, before);
      absent = λ u within owns away t given low high. free t u given low high;
    }

    pub left_station : IsStation (record s { round = s.round + 1; hand = hand })
    left_station = record {
      of_run = of_run;
      front = f;
      is_front = front;
      laws = record { places = old.places; units = left_units; rounds = left_rounds; counts = old.counts };
    }

  -- ---- where the group has no move

  none_left : (u : ℕ) → OwnsAt (site s) s.round u → held s.hand u ≡ None → u < width s → ⊥
  none_left u owns away within = let here = done.units u within owns in absurd (cc)

  module _ (none : move_in s.group (next_moves s o) ≡ None) where
    same_owner : (u : ℕ) → owner_by u (owner s.run.settings.pipelines o.plans s.round s.group u) (move_in s.group (next_moves s o)) ≡ owner s.run.settings.pipelines o.plans s.round s.group u
    same_owner u = ap (owner_by u (owner s.run.settings.pipelines o.plans s.round s.group u)) none

    stays_none : (u : ℕ) → OwnsAt (site s) s.round u → OwnsAt (site s) (s.round + 1) u
    stays_none u owns = owns_then u (same_owner u ∙ owner_here u owns)

    came_none : (u : ℕ) → OwnsAt (site s) (s.round + 1) u → OwnsAt (site s) s.round u
    came_none u owns =
        owns_at (site s) o.plans s.round u owners.lawful owners.known
        (sym (same_owner u) ∙ sym (then_owner u) ∙ owner_at (site s) o.plans (s.round + 1) u owners.lawful (omega (arith, next)) owns)

    pub leaves_none : IsStation (record s { round = s.round + 1 })
    leaves_none = left_station s.hand refl (λ u unit e. (e, stays_none u))

    pub awaits_none : (awaited : Option ℕ) → IsAwaited s awaited → IsAwaited (record s { round = s.round + 1 }) awaited
    awaits_none awaited h = record {
      told = λ u within owns away. absurd (none_left u (came_none u owns) away within);
      away = λ u e. let was = h.away u e in absurd (none_left u was.1 was.2 was.0);
    }

  -- ---- where it has one

  module _ (m : Move) (found : move_in s.group (next_moves s o) ≡ Some m) where
    known : IsMove (site s) o.plans s.round m
    known = move_is (site s) o.plans s.round m of_run.group owners.lawful next found

    moved_owner : (u : ℕ) → owner_by u (owner s.run.settings.pipelines o.plans s.round s.group u) (move_in s.group (next_moves s o)) ≡ cond (m.unit == u) m.taker (owner s.run.settings.pipelines o.plans s.round s.group u)
    moved_owner u = ap (owner_by u (owner s.run.settings.pipelines o.plans s.round s.group u)) found

    unit_here : m.unit < length s.hand
    unit_here = let wide = old.units.wide in let unit = known.unit in omega (arith, wide, unit)

    -- a unit that isn't the move's
    other_owner : (u : ℕ) → m.unit ≢ u → owner_by u (owner s.run.settings.pipelines o.plans s.round s.group u) (move_in s.group (next_moves s o)) ≡ owner s.run.settings.pipelines o.plans s.round s.group u
    other_owner u ne = moved_owner u ∙ ap (λ b. cond b m.taker (owner s.run.settings.pipelines o.plans s.round s.group u)) (apart (m.unit == u) refl)
      where
        apart : (b : Bool) → (m.unit == u) ≡ b → (m.unit == u) ≡ false
        apart true e = absurd (ne (eqb-true m.unit u e))
        apart false e = e

    this_owner : owner_by m.unit (owner s.run.settings.pipelines o.plans s.round s.group m.unit) (move_in s.group (next_moves s o)) ≡ m.taker
    this_owner = moved_owner m.unit ∙ ap (λ b. cond b m.taker (owner s.run.settings.pipelines o.plans s.round s.group m.unit)) (eq-eqb m.unit m.unit refl)

    stays_other : (u : ℕ) → m.unit ≢ u → OwnsAt (site s) s.round u → OwnsAt (site s) (s.round + 1) u
    stays_other u ne owns = owns_then u (other_owner u ne ∙ owner_here u owns)

    came_other : (u : ℕ) → m.unit ≢ u → OwnsAt (site s) (s.round + 1) u → OwnsAt (site s) s.round u
    came_other u ne owns =
        owns_at (site s) o.plans s.round u owners.lawful owners.known
        (sym (other_owner u ne) ∙ sym (then_owner u) ∙ owner_at (site s) o.plans (s.round + 1) u owners.lawful (omega (arith, next)) owns)

    -- who gives it owns it
    giver_owns : m.giver ≡ s.pipe → OwnsAt (site s) s.round m.unit
    giver_owns is = owns_at (site s) o.plans s.round m.unit owners.lawful owners.known (sym known.giver ∙ is)

    -- the hand is without the unit where this pipe gives it
    hand_same : (b : Bool) → (m.giver == s.pipe) ≡ b → (u : ℕ) (unit : PlacedUnit) → held (cond b (slice_set s.hand m.unit None) s.hand) u ≡ Some unit
        → (held s.hand u ≡ Some unit) × (OwnsAt (site s) s.round u → OwnsAt (site s) (s.round + 1) u)
    hand_same true t u unit e = elim (eqb_tells m.unit u) [
      | inl h ↦ (let gone : held (slice_set s.hand m.unit None) u ≡ None = subst (λ n. held (slice_set s.hand m.unit None) n ≡ None) h.1 (get_or-set_same s.hand m.unit None None unit_here) in absurd (cc))
      | inr h ↦ (let ne : m.unit ≢ u = h.1 in (sym (get_or-set_other s.hand m.unit u None None (λ k. ne (sym k))) ∙ e, stays_other u ne))
    ]
    hand_same false t u unit e = (e, stays)
      where
        stays : OwnsAt (site s) s.round u → OwnsAt (site s) (s.round + 1) u
        stays owns = elim (eqb_tells m.unit u) [
          | inl h ↦ (let giver : m.giver ≡ s.pipe = known.giver ∙ owner_here m.unit (subst (λ n. OwnsAt (site s) s.round n) (sym h.1) owns) in
              let yes' : (m.giver == s.pipe) ≡ true = eq-eqb m.giver s.pipe giver in absurd (cc))
          | inr h ↦ stays_other u h.1 owns
        ]

    hand_long : (b : Bool) → length (cond b (slice_set s.hand m.unit None) s.hand) ≡ length s.hand
    hand_long true = length-set s.hand m.unit None
    hand_long false = refl

    pub leaves_move : IsStation (record s { round = s.round + 1; hand = given_hand s.pipe s.hand m })
    leaves_move = left_station (cond (m.giver == s.pipe) (slice_set s.hand m.unit None) s.hand) (hand_long (m.giver == s.pipe)) (hand_same (m.giver == s.pipe) refl)

    -- who isn't in hand then, but for the move's unit, wasn't before
    away_before : (b : Bool) (u : ℕ) → m.unit ≢ u → held (cond b (slice_set s.hand m.unit None) s.hand) u ≡ None → held s.hand u ≡ None
    away_before true u ne away = sym (get_or-set_other s.hand m.unit u None None (λ k. ne (sym k))) ∙ away
    away_before false u ne away = away

    takes : m.taker ≡ s.pipe → OwnsAt (site s) (s.round + 1) m.unit
    takes is = owns_then m.unit (this_owner ∙ is)

    taken : OwnsAt (site s) (s.round + 1) m.unit → m.taker ≡ s.pipe
    taken owns = sym this_owner ∙ sym (then_owner m.unit) ∙ owner_at (site s) o.plans (s.round + 1) m.unit owners.lawful (omega (arith, next)) owns

    told_by : (hand : List (Option PlacedUnit)) (b : Bool) → (m.taker == s.pipe) ≡ b → (c : Bool) → is_some (held hand m.unit) ≡ c
        → OwnsAt (site s) (s.round + 1) m.unit → held hand m.unit ≡ None → cond b (cond c None (Some m.unit)) None ≡ Some m.unit
    told_by hand b e true here owns away = absurd (cc)
    told_by hand true e false here owns away = refl
    told_by hand false e false here owns away = let same : (m.taker == s.pipe) ≡ true = eq-eqb m.taker s.pipe (taken owns) in absurd (cc)

    away_by : (hand : List (Option PlacedUnit)) (b : Bool) → (m.taker == s.pipe) ≡ b → (c : Bool) → is_some (held hand m.unit) ≡ c → (u : ℕ)
        → cond b (cond c None (Some m.unit)) None ≡ Some u → (m.unit ≡ u) × (m.taker ≡ s.pipe) × (is_some (held hand m.unit) ≡ false)
    away_by hand true e true here u k = absurd (cc)
    away_by hand true e false here u k = let is : m.unit ≡ u = cc in (is, eqb-true m.taker s.pipe e, here)
    away_by hand false e c here u k = absurd (cc)

    none_is : (x : Option PlacedUnit) → is_some x ≡ false → x ≡ None
    none_is None e = refl
    none_is (Some unit) e = absurd (cc)

    pub awaits_move : IsAwaited (record s { round = s.round + 1; hand = given_hand s.pipe s.hand m }) (awaited_by s.pipe (given_hand s.pipe s.hand m) m)
    awaits_move = record { told = told; away = away }
      where
        told : (u : ℕ) → u < width s → OwnsAt (site s) (s.round + 1) u → held (given_hand s.pipe s.hand m) u ≡ None → awaited_by s.pipe (given_hand s.pipe s.hand m) m ≡ Some u
        told u within owns gone = elim (eqb_tells m.unit u) [
          | inl h ↦ (let same : m.unit ≡ u = h.1 in
              told_by (given_hand s.pipe s.hand m) (m.taker == s.pipe) refl (is_some (held (given_hand s.pipe s.hand m) m.unit)) refl
              (subst (λ n. OwnsAt (site s) (s.round + 1) n) (sym same) owns) (subst (λ n. held (given_hand s.pipe s.hand m) n ≡ None) (sym same) gone)
              ∙ ap (λ (n : ℕ). Some n) same)
          | inr h ↦ absurd (none_left u (came_other u h.1 owns) (away_before (m.giver == s.pipe) u h.1 gone) within)
        ]

        away : (u : ℕ) → awaited_by s.pipe (given_hand s.pipe s.hand m) m ≡ Some u → (u < width s) × OwnsAt (site s) (s.round + 1) u × (held (given_hand s.pipe s.hand m) u ≡ None)
        away u e =
            let k = away_by (given_hand s.pipe s.hand m) (m.taker == s.pipe) refl (is_some (held (given_hand s.pipe s.hand m) m.unit)) refl u e in (
              subst (λ n. n < width s) k.0 known.unit,
              subst (λ n. OwnsAt (site s) (s.round + 1) n) k.0 (takes k.1),
              subst (λ n. held (given_hand s.pipe s.hand m) n ≡ None) k.0 (none_is (held (given_hand s.pipe s.hand m) m.unit) k.2),
            )

    -- what leaves stands at the end of the round
    gone_unit : m.giver ≡ s.pipe → held s.hand m.unit ≡ Some (unit_before s (round_end s) m.unit)
    gone_unit is =
        let here = some_unit (in_hand s m.unit) (done.units m.unit known.unit (giver_owns is)) in
        let k = old.units.known m.unit here.0 here.1 in
        here.1 ∙ (λ i. Some (record { group = k.group i; number = k.number i; cells = cells_are k.cells i }))
      where
        cells_are : {cells : List ℤ} → HasCells (site s) s.round f m.unit cells → cells ≡ units_before s.run end' s.group m.unit
        cells_are (own owns e) = let least : min f end' ≡ end' = omega (arith, past) in e ∙ ap (λ n. units_before s.run n s.group m.unit) least
        cells_are (later d n behind e) = absurd (n.first s.round (omega arith) behind (giver_owns is))

    pub gone_is : (b : Bool) → (m.giver == s.pipe) ≡ b → cond b (option_map (λ unit. (m.taker, unit)) (held s.hand m.unit)) None ≡ departing s (cond b (Some m) None)
    gone_is true t = ap (option_map (λ unit. (m.taker, unit))) (gone_unit (eqb-true m.giver s.pipe t))
    gone_is false t = refl

    pub station_is : (b : Bool) → ◌≡◌ {A = Station} (record s { round = s.round + 1; hand = cond b (slice_set s.hand m.unit None) s.hand }) (after_leaving s (cond b (Some m) None))
    station_is true = refl
    station_is false = refl

-- ---- from what the fields hold

pub leaves_none_at : (s now : Station) (o : OwnerTable) (awaited : Option ℕ) → s ≡ now → IsStation s → IsAwaited s awaited → AreOwnersFor now o → now.round < length o.plans → IsRoundDone now
    → move_in s.group (next_moves s o) ≡ None → IsStation (record s { round = s.round + 1 }) × IsAwaited (record s { round = s.round + 1 }) awaited
leaves_none_at s now o awaited e station h owners next done none =
    let owners_here : AreOwnersFor s o = subst (λ (r : Station). AreOwnersFor r o) (sym e) owners in
    let next_here : s.round < length o.plans = subst (λ (r : Station). r.round < length o.plans) (sym e) next in
    let done_here : IsRoundDone s = subst (λ (r : Station). IsRoundDone r) (sym e) done in (
      leaves_none s o station.front station.of_run station.is_front station.laws owners_here next_here done_here none,
      awaits_none s o station.front station.of_run station.is_front station.laws owners_here next_here done_here none awaited h,
    )

pub move_within : (s now : Station) (o : OwnerTable) (m : Move) → s ≡ now → IsStation s → AreOwnersFor now o → now.round < length o.plans → move_in s.group (next_moves s o) ≡ Some m → m.unit < length s.hand
move_within s now o m e station owners next found =
    let owners_here : AreOwnersFor s o = subst (λ (r : Station). AreOwnersFor r o) (sym e) owners in
    let next_here : s.round < length o.plans = subst (λ (r : Station). r.round < length o.plans) (sym e) next in
    let unit = (move_is (site s) o.plans s.round m station.of_run.group owners_here.lawful next_here found).unit in
    let wide = station.laws.units.wide in
    omega (arith, unit, wide)

pub given_long : (pipe : ℕ) (hand : List (Option PlacedUnit)) (m : Move) → length (given_hand pipe hand m) ≡ length hand
given_long pipe hand m = by (m.giver == pipe)
  where
    by : (b : Bool) → length (cond b (slice_set hand m.unit None) hand) ≡ length hand
    by true = length-set hand m.unit None
    by false = refl

-- what a move leaves
pub record LeavesMove (s now : Station) (o : OwnerTable) (m : Move) (hand : List (Option PlacedUnit)) (a : Option ℕ) (gone : Option (ℕ × PlacedUnit)) : Type 0 where
  pub laws : IsStation (record s { round = s.round + 1; hand = hand })
  pub awaits : IsAwaited (record s { round = s.round + 1; hand = hand }) a
  pub station : ◌≡◌ {A = Station} (record s { round = s.round + 1; hand = hand }) (after_leaving now (leaving now (next_moves now o)))
  pub gives : gone ≡ departing now (leaving now (next_moves now o))

pub leaves_move_at : (s now : Station) (o : OwnerTable) (m : Move) (first hand : List (Option PlacedUnit)) (a : Option ℕ) (gone : Option (ℕ × PlacedUnit)) → s ≡ now → IsStation s → AreOwnersFor now o → now.round < length o.plans → IsRoundDone now
    → move_in s.group (next_moves s o) ≡ Some m → first ≡ s.hand → hand ≡ given_hand s.pipe first m → a ≡ awaited_by s.pipe hand m → gone ≡ given_unit s.pipe first m
    → LeavesMove s now o m hand a gone
leaves_move_at s now o m first hand a gone e station owners next done found begun is rest gave = subst (λ (r : Station). LeavesMove s r o m hand a gone) e record {
  laws = subst (λ (x : List (Option PlacedUnit)). IsStation (record s { round = s.round + 1; hand = x })) (sym here)
      (leaves_move s o station.front station.of_run station.is_front station.laws owners_here next_here done_here m found);
  awaits = subst (λ (x : Option ℕ). IsAwaited (record s { round = s.round + 1; hand = hand }) x) (sym rest)
      (subst (λ (x : List (Option PlacedUnit)). IsAwaited (record s { round = s.round + 1; hand = x }) (awaited_by s.pipe x m)) (sym here)
      (awaits_move s o station.front station.of_run station.is_front station.laws owners_here next_here done_here m found));
  station = ap (λ (x : List (Option PlacedUnit)). record s { round = s.round + 1; hand = x }) here
      ∙ station_is s o station.front station.of_run station.is_front station.laws owners_here next_here done_here m found (m.giver == s.pipe)
      ∙ ap (λ (x : Option Move). after_leaving s (given_by s.pipe x)) (sym found);
  gives = gave
      ∙ ap (λ (x : List (Option PlacedUnit)). given_unit s.pipe x m) begun
      ∙ gone_is s o station.front station.of_run station.is_front station.laws owners_here next_here done_here m found (m.giver == s.pipe) refl
      ∙ ap (λ (x : Option Move). departing s (given_by s.pipe x)) (sym found);
}
  where
    owners_here : AreOwnersFor s o
    owners_here = subst (λ (r : Station). AreOwnersFor r o) (sym e) owners

    next_here : s.round < length o.plans
    next_here = subst (λ (r : Station). r.round < length o.plans) (sym e) next

    done_here : IsRoundDone s
    done_here = subst (λ (r : Station). IsRoundDone r) (sym e) done

    here : hand ≡ given_hand s.pipe s.hand m
    here = is ∙ ap (λ (x : List (Option PlacedUnit)). given_hand s.pipe x m) begun
