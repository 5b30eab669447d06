-- A station that took a unit into hand: no given place is between the start of its round and the front.
use Rattle.std.proofs.Common.{◌≡◌, ◌≢◌, ℕ, ◌+◌, ◌<◌, ◌≤◌, ◌==◌, min, Bool, true, false, cond, List, length, slice_set, Option, Some, None, is_some, refl, sym, ap, subst, ◌∙◌, inl, inr, arith, get_or-set_same, get_or-set_other, length-set, IsTrue, ◌↔◌}
use Rattle.std.proofs.lemmas.Bool.Decides.{eqb_tells}
use Rattle.code_forms.specs.declared.unit.Unit.{Unit as PlacedUnit}
use Rattle.shard_rounds.specs.Rounds.{OwnerTable, IsUnit, owner}
use Rattle.run_laws.specs.Run.{units_before}
use Rattle.group_station.specs.Station.{Station, site, width, held, in_hand, OwnsAt, OwnsIn, IsFront, round_start, IsNextOwn, HasCells, own, later, IsHeld, AreLaws, IsOfRun, IsStation, IsAwaited}
use Rattle.group_station.specs.Steps.{AreOwnersFor, IsUnitFor, after_taking}
use Rattle.group_station.specs.Holding.{awaited_after}
use Rattle.group_station.proofs.LawLemmas.{front_within, own_rests}
use Rattle.group_station.proofs.MoveLemmas.{is_unit, owner_at, owns_at}

module _ (s : Station) (f from : ℕ) (unit : PlacedUnit) (of_run : IsOfRun (site s) s.queue) (front : IsFront s.queue f) (old : AreLaws s f)
    (fits : IsUnitFor s from unit) (away : in_hand s unit.number ≡ None) (next : IsNextOwn s unit.number from) where
  there : unit.number < length s.hand
  there = let wide = old.units.wide in let number = fits.number in omega (arith, wide, number)

  new_cells : HasCells (site s) s.round f unit.number unit.cells
  new_cells = elim (eqb_tells from s.round) [ inl h ↦ present h.1 | inr h ↦ behind h.1 ]
    where
      present : from ≡ s.round → HasCells (site s) s.round f unit.number unit.cells
      present here =
          let owns : OwnsAt (site s) s.round unit.number = subst (λ e. OwnsAt (site s) e unit.number) here fits.owned in
          let begun = old.rounds.begun in
          let within = front_within (site s) s.queue f of_run front in
          let wide : round_start (site s) s.round ≤ round_start (site s) (s.round + 1) = omega arith in
          own owns (fits.cells ∙ ap (λ e. units_before s.run (round_start (site s) e) s.group unit.number) here
          ∙ sym (own_rests (site s) s.round unit.number (round_start (site s) s.round) (min f (round_start (site s) (s.round + 1))) owns (omega (arith, begun, wide)) (omega (arith, within)) (omega arith) (omega arith)
          (λ t given low high. old.rounds.absent unit.number fits.number owns away t given low (omega (arith, high)))))

      behind : from ≢ s.round → HasCells (site s) s.round f unit.number unit.cells
      behind other = let low = next.from in later from next (omega (arith, low, other)) fits.cells

  taken_unit : (u : ℕ) (x : PlacedUnit) → held (slice_set s.hand unit.number (Some unit)) u ≡ Some x → IsHeld (site s) s.round f u x
  taken_unit u x e = elim (eqb_tells u unit.number) [ inl h ↦ this h.1 | inr h ↦ old.units.known u x (sym (get_or-set_other s.hand unit.number u (Some unit) None h.1) ∙ e) ]
    where
      this : u ≡ unit.number → IsHeld (site s) s.round f u x
      this here =
          let read : ◌≡◌ {A = Option PlacedUnit} (Some unit) (Some x) =
          sym (get_or-set_same s.hand unit.number (Some unit) None there) ∙ subst (λ n. held (slice_set s.hand unit.number (Some unit)) n ≡ Some x) here e in
          let is : unit ≡ x = cc in
          subst (λ n. IsHeld (site s) s.round f n x) (sym here) (subst (λ (y : PlacedUnit). IsHeld (site s) s.round f unit.number y) is (record { group = fits.group; number = refl; cells = new_cells }))

  -- who isn't in hand then wasn't before
  away_before : (u : ℕ) → held (slice_set s.hand unit.number (Some unit)) u ≡ None → (u ≢ unit.number) × (in_hand s u ≡ None)
  away_before u none = (other, sym (get_or-set_other s.hand unit.number u (Some unit) None other) ∙ none)
    where
      other : u ≢ unit.number
      other here =
          let read : ◌≡◌ {A = Option PlacedUnit} (Some unit) None =
          sym (get_or-set_same s.hand unit.number (Some unit) None there) ∙ subst (λ n. held (slice_set s.hand unit.number (Some unit)) n ≡ None) here none in
          absurd (cc)

  pub take_station : IsStation (after_taking s unit)
  take_station = record {
    of_run = of_run;
    front = f;
    is_front = front;
    laws = record {
      places = old.places;
      units = record { wide = length-set s.hand unit.number (Some unit) ∙ old.units.wide; known = taken_unit };
      rounds = record {
        begun = old.rounds.begun;
        last = old.rounds.last;
        passed = old.rounds.passed;
        absent = λ u within owns none t given low high. old.rounds.absent u within owns (away_before u none).1 t given low high;
      };
      counts = old.counts;
    };
  }

  pub take_awaits : (awaited : Option ℕ) → IsAwaited s awaited → (b : Bool) → (from == s.round) ≡ b → IsAwaited (after_taking s unit) (cond b None awaited)
  take_awaits awaited h true e = record { told = told; away = λ u k. absurd (cc) }
    where
      told : (u : ℕ) → u < width s → OwnsIn s s.round u → held (slice_set s.hand unit.number (Some unit)) u ≡ None → None ≡ Some u
      told u within owns none =
          let before = away_before u none in
          let here : from ≡ s.round = grind arith in
          let one : awaited ≡ Some unit.number = h.told unit.number fits.number (subst (λ r. OwnsAt (site s) r unit.number) here fits.owned) away in
          let two : awaited ≡ Some u = h.told u within owns before.1 in
          let both : ◌≡◌ {A = Option ℕ} (Some u) (Some unit.number) = sym two ∙ one in
          let same : u ≡ unit.number = cc in
          absurd (before.0 same)
  take_awaits awaited h false e = record {
    told = λ u within owns none. h.told u within owns (away_before u none).1;
    away = λ u k. (let was = h.away u k in (was.0, was.1, get_or-set_other s.hand unit.number u (Some unit) None (other u was.1) ∙ was.2));
  }
    where
      other : (u : ℕ) → OwnsIn s s.round u → u ≢ unit.number
      other u owns same =
          let apart : from ≢ s.round = grind arith in
          let low = next.from in
          next.first s.round (omega arith) (omega (arith, low, apart)) (subst (λ n. OwnsIn s s.round n) same owns)

-- ---- who owns the unit in which round

-- no round of these is an own one
abbrev pub NoneOwned : Station → ℕ → ℕ → Type 0
NoneOwned s u to = (d : ℕ) → s.round ≤ d → d < to → OwnsIn s d u → ⊥

pub none_yet : (s : Station) (u : ℕ) → NoneOwned s u s.round
none_yet s u d low lt owns = absurd (omega arith)

-- another owner's round is none
pub none_more : (s : Station) (o : OwnerTable) (u d n : ℕ) → AreOwnersFor s o → d ≤ length o.plans → n ≡ owner o.pipelines o.plans d s.group u → n ≢ s.pipe → NoneOwned s u d → NoneOwned s u (d + 1)
none_more s o u d n owners known is other before e low lt owns = elim (eqb_tells e d) [
  | inl h ↦ other (is ∙ ap (λ k. owner k o.plans d s.group u) owners.pipelines ∙ owner_at (site s) o.plans d u owners.lawful known (subst (λ m. OwnsIn s m u) h.1 owns))
  | inr h ↦ (let ne : e ≢ d = h.1 in before e low (omega (arith, lt, ne)) owns)
]

-- an own round before it makes a round no next one
pub none_next : (s : Station) (o : OwnerTable) (u d from n : ℕ) → AreOwnersFor s o → s.round ≤ d → d < from → from ≤ length o.plans → n ≡ owner o.pipelines o.plans d s.group u → n ≡ s.pipe → IsNextOwn s u from → ⊥
none_next s o u d from n owners low lt known is here next =
    next.first d low lt (owns_at (site s) o.plans d u owners.lawful (omega arith) (ap (λ k. owner k o.plans d s.group u) (sym owners.pipelines) ∙ sym is ∙ here))

-- what is asked of the owners of a unit
pub owner_asked : (s : Station) (o : OwnerTable) (u : ℕ) → IsStation s → AreOwnersFor s o → u < width s → IsUnit o.units s.group u
owner_asked s o u station owners within = subst (λ (units : List ℕ). IsUnit units s.group u) (sym owners.units) (is_unit (site s) u station.of_run.group within)

-- ---- from what the fields hold

pub own_before : (s now : Station) (o : OwnerTable) (u d from n : ℕ) → s ≡ now → AreOwnersFor now o → s.round ≤ d → d < from → n ≡ owner o.pipelines o.plans d s.group u → n ≡ s.pipe
    → IsTrue false ↔ ((from ≤ length o.plans) × IsNextOwn now u from)
own_before s now o u d from n e owners low lt is here = subst (λ (r : Station). IsTrue false ↔ ((from ≤ length o.plans) × IsNextOwn r u from)) e (
  (λ yes'. absurd (cc)),
  (λ h. absurd (none_next s o u d from n (subst (λ (r : Station). AreOwnersFor r o) (sym e) owners) low lt h.0 is here h.1)),
)

pub other_before : (s now : Station) (o : OwnerTable) (u d n : ℕ) → s ≡ now → AreOwnersFor now o → d ≤ length o.plans → n ≡ owner o.pipelines o.plans d s.group u → n ≢ s.pipe → NoneOwned now u d → NoneOwned now u (d + 1)
other_before s now o u d n e owners known is other before =
    subst (λ (r : Station). NoneOwned r u (d + 1)) e
    (none_more s o u d n (subst (λ (r : Station). AreOwnersFor r o) (sym e) owners) known is other (subst (λ (r : Station). NoneOwned r u d) (sym e) before))

pub is_next : (s now : Station) (o : OwnerTable) (u d from : ℕ) → s ≡ now → OwnsIn now from u → s.round ≤ from → from ≤ length o.plans → from ≤ d → NoneOwned now u d
    → IsTrue true ↔ ((from ≤ length o.plans) × IsNextOwn now u from)
is_next s now o u d from e owned low known all before = (
  (λ yes'. (known, record { owned = owned; from = subst (λ (r : Station). r.round ≤ from) e low; first = λ k least lt. before k least (omega (arith, lt, all)) })),
  (λ h. refl),
)

pub taken_at : (s now : Station) (from : ℕ) (unit : PlacedUnit) (awaited a : Option ℕ) (hand : List (Option PlacedUnit)) → s ≡ now → IsStation s → IsAwaited s awaited → IsUnitFor now from unit
    → is_some (in_hand s unit.number) ≡ false → IsNextOwn now unit.number from → hand ≡ slice_set s.hand unit.number (Some unit) → a ≡ awaited_after s.round from awaited
    → IsStation (record s { hand = hand }) × IsAwaited (record s { hand = hand }) a
taken_at s now from unit awaited a hand e station h fits away next is rest =
    let fits_here : IsUnitFor s from unit = subst (λ (r : Station). IsUnitFor r from unit) (sym e) fits in
    let next_here : IsNextOwn s unit.number from = subst (λ (r : Station). IsNextOwn r unit.number from) (sym e) next in
    let gone : in_hand s unit.number ≡ None = none_is (in_hand s unit.number) away in
    let laws = take_station s station.front from unit station.of_run station.is_front station.laws fits_here gone next_here in
    let awaits = take_awaits s station.front from unit station.of_run station.is_front station.laws fits_here gone next_here awaited h (from == s.round) refl in (
      subst (λ (x : List (Option PlacedUnit)). IsStation (record s { hand = x })) (sym is) laws,
      subst (λ (x : List (Option PlacedUnit)). IsAwaited (record s { hand = x }) a) (sym is) (subst (λ (x : Option ℕ). IsAwaited (after_taking s unit) x) (sym rest) awaits),
    )
  where
    none_is : (x : Option PlacedUnit) → is_some x ≡ false → x ≡ None
    none_is None k = refl
    none_is (Some y) k = absurd (cc)

-- a number of the group is in the hand's list
pub number_in : (s now : Station) (from : ℕ) (unit : PlacedUnit) → s ≡ now → IsStation s → IsUnitFor now from unit → unit.number < length s.hand
number_in s now from unit e station fits =
    let here : IsUnitFor s from unit = subst (λ (r : Station). IsUnitFor r from unit) (sym e) fits in
    let wide = station.laws.units.wide in
    let number = here.number in
    omega (arith, wide, number)
