-- A round that is left at a group of a pipe: the unit that leaves goes to the pipe that owns it in the next round, as it
-- stands at the start of that round.
use Rattle.std.proofs.Common.{◌≡◌, ℕ, ◌+◌, ◌<◌, ◌==◌, Bool, true, false, cond, length, take, Option, Some, None, refl, sym, ap, subst, ◌∙◌, arith, eq-eqb, length-set}
use Rattle.code_forms.specs.declared.unit.Unit.{Unit as PlacedUnit}
use Rattle.shard_rounds.specs.declared.plan.Move.{Move}
use Rattle.shard_rounds.specs.Rounds.{OwnerTable, CanMove, owner}
use Rattle.pipe_parts.specs.Waiting.{Waiting}
use Rattle.run_laws.specs.Run.{Run}
use Rattle.run_laws.specs.LawfulPlans.{Owns, owners_after}
use Rattle.run_laws.proofs.PlanLemmas.{owns_by}
use Rattle.group_station.specs.Station.{Station, site, round_end}
use Rattle.group_station.specs.Steps.{unit_before, AreOwnersFor, move_in, given_by, leaving, taker_of, after_leaving, departing, next_moves}
use Rattle.group_station.proofs.MoveLemmas.{lawful_plan, owner_by, owner_next, move_found, move_is}
use Rattle.pipe_stations.specs.Row.{Row, IsRow, station_at, with_station}
use Rattle.pipe_stations.proofs.RowLemmas.{run_there, group_there}
use Rattle.pipe_messages.specs.declared.message.Message.{Message}
use Rattle.pipe_messages.specs.declared.message.Message.TheVariants.{Cell}
use Rattle.pipe_messages.specs.Messages.{IsHandedOver}
use Rattle.pipe_worker.specs.Pipe.{Pipe, station, told}
use Rattle.pipe_worker.specs.Laws.{HasMessages, IsPipe}
use Rattle.pipe_worker.specs.Events.{leaver, CanLeave, told_of_unit, IsOneEvent, leave}
use Rattle.pipe_worker.proofs.RowLemmas.{owners_there, put_there, row_owners, group_here, run_here, Changes, changed}
use Rattle.pipe_worker.proofs.MessageLemmas.{told_keeps}

-- ---- at a station

-- a unit goes to a pipe for the next round
pub record IsGoing (run : Run) (g round to : ℕ) (unit : PlacedUnit) : Type 0 where
  pub within : to < run.settings.pipelines
  pub law : IsHandedOver run to g unit.number (round + 1) unit

module _ (s : Station) (o : OwnerTable) (there : s.group < length s.run.code.groups) (owners : AreOwnersFor s o) (next : s.round < length o.plans) where
  module _ (m : Move) (found : move_in s.group (next_moves s o) ≡ Some m) where
    -- the taker is a pipe
    takes : m.taker < s.run.settings.pipelines
    takes =
        let plan = lawful_plan s.run o.plans s.round owners.lawful next in
        (move_found (CanMove (owners_after s.run (take s.round o.plans))) s.group (next_moves s o) m plan.each found).0.taker

    -- and owns the unit in the next round
    then_owns : Owns s.run (s.round + 1) s.group m.unit m.taker
    then_owns =
        let before : ℕ = owner s.run.settings.pipelines o.plans s.round s.group m.unit in
        subst (λ p. Owns s.run (s.round + 1) s.group m.unit p)
        (owner_next s.run o.plans s.round s.group m.unit owners.lawful next ∙ ap (owner_by m.unit before) found ∙ ap (λ b. cond b m.taker before) (eq-eqb m.unit m.unit refl))
        (owns_by s.run o.plans (s.round + 1) s.group m.unit owners.lawful (omega (arith, next)))

    goes : IsGoing s.run s.group s.round m.taker (unit_before s (round_end s) m.unit)
    goes = record {
      within = takes;
      law = record {
        there = there;
        within = (move_is (site s) o.plans s.round m there owners.lawful next found).unit;
        group = refl;
        number = refl;
        owned = then_owns;
        cells = refl;
      };
    }

  -- so it is with what leaves, if something does
  pub going : (to : ℕ) (unit : PlacedUnit) → Some (to, unit) ≡ departing s (leaving s (next_moves s o)) → IsGoing s.run s.group s.round to unit
  going to unit = by_move (move_in s.group (next_moves s o)) refl
    where
      by_giver : (m : Move) → move_in s.group (next_moves s o) ≡ Some m → (b : Bool) → Some (to, unit) ≡ departing s (cond b (Some m) None) → IsGoing s.run s.group s.round to unit
      by_giver m found true e =
          let is : ◌≡◌ {A = ℕ × PlacedUnit} (m.taker, unit_before s (round_end s) m.unit) (to, unit) = cc in
          subst (λ (x : ℕ × PlacedUnit). IsGoing s.run s.group s.round x.0 x.1) is (goes m found)
      by_giver m found false e = absurd (cc)

      by_move : (x : Option Move) → move_in s.group (next_moves s o) ≡ x → Some (to, unit) ≡ departing s (given_by s.pipe x) → IsGoing s.run s.group s.round to unit
      by_move None found e = absurd (cc)
      by_move (Some m) found e = by_giver m found (m.giver == s.pipe) e

  -- and the pipe that gets it is one of the run
  pub taker_there : (to : ℕ) → Some to ≡ taker_of (leaving s (next_moves s o)) → to < s.run.settings.pipelines
  taker_there to = by_move (move_in s.group (next_moves s o)) refl
    where
      by_giver : (m : Move) → move_in s.group (next_moves s o) ≡ Some m → (b : Bool) → Some to ≡ taker_of (cond b (Some m) None) → to < s.run.settings.pipelines
      by_giver m found true e = let is : m.taker ≡ to = cc in subst (λ n. n < s.run.settings.pipelines) is (takes m found)
      by_giver m found false e = absurd (cc)

      by_move : (x : Option Move) → move_in s.group (next_moves s o) ≡ x → Some to ≡ taker_of (given_by s.pipe x) → to < s.run.settings.pipelines
      by_move None found e = absurd (cc)
      by_move (Some m) found e = by_giver m found (m.giver == s.pipe) e

left_round : (s : Station) (m : Option Move) → (after_leaving s m).round ≡ s.round + 1
left_round s None = refl
left_round s (Some m) = refl

-- ---- at a pipe

-- the station of a group after it left its round
abbrev pub left : Pipe → ℕ → Station
left s g = after_leaving (station s g) (leaving (station s g) (next_moves (station s g) s.owners))

module _ (s : Pipe) (ok : IsPipe s) (row : IsRow s.row) (g : ℕ) (here : g < length s.row.stations) (next : (station s g).round < length s.owners.plans) where
  here_owners : AreOwnersFor (station s g) s.owners
  here_owners = owners_there s.row s.owners g row here ok.whole.owners

  run_is : (station s g).run ≡ s.run
  run_is = run_here s g ok.whole row here

  group_is : (station s g).group ≡ g
  group_is = group_there s.row g row here

  group_there' : (station s g).group < length (station s g).run.code.groups
  group_there' =
      let all = row.all in
      subst (λ n. n < length (station s g).run.code.groups) (sym group_is)
      (subst (λ (run : Run). g < length run.code.groups) (sym (run_there s.row g row here)) (omega (arith, here, all)))

  pub taker_within : (to : ℕ) → Some to ≡ taker_of (leaving (station s g) (next_moves (station s g) s.owners)) → to < length s.outbox.lines
  taker_within to e =
      let boxes = ok.whole.boxes in
      let within : to < s.run.settings.pipelines = subst (λ (run : Run). to < run.settings.pipelines) run_is (taker_there (station s g) s.owners group_there' here_owners next to e) in
      omega (arith, boxes, within)

  goes_from : (to : ℕ) (unit : PlacedUnit) → Some (to, unit) ≡ leaver s g → IsGoing s.run g (station s g).round to unit
  goes_from to unit e =
      subst (λ n. IsGoing s.run n (station s g).round to unit) group_is
      (subst (λ (run : Run). IsGoing run (station s g).group (station s g).round to unit) run_is (going (station s g) s.owners group_there' here_owners next to unit e))

  pub goer_within : (to : ℕ) (unit : PlacedUnit) → Some (to, unit) ≡ leaver s g → to < length s.outbox.lines
  goer_within to unit e =
      let boxes = ok.whole.boxes in
      let within = (goes_from to unit e).within in
      omega (arith, boxes, within)

  left_round_is : (left s g).round ≡ (station s g).round + 1
  left_round_is = left_round (station s g) (leaving (station s g) (next_moves (station s g) s.owners))

  left_changes : (outbox : Waiting Message) → length outbox.lines ≡ length s.outbox.lines → outbox.room ≡ s.outbox.room
      → ((q : ℕ) → q < s.run.settings.pipelines → HasMessages (record s { outbox = outbox }) q) → Changes s s.packets (with_station s.row g (left s g)) outbox
  left_changes outbox boxes room messages = record {
    run = refl;
    number = refl;
    owners = row_owners s.row s.owners g (left s g) (let is = left_round_is in omega (arith, is, next)) ok.whole.owners;
    pipes = refl;
    window = refl;
    count = refl;
    here = ok.packets;
    boxes = boxes;
    room = room;
    messages = messages;
  }

  pub left_alone : IsPipe (record s { row = with_station s.row g (left s g) })
  left_alone = changed s s.packets (with_station s.row g (left s g)) s.outbox (left_changes s.outbox refl refl ok.messages) ok

  pub left_with : (to : ℕ) (unit : PlacedUnit) → Some (to, unit) ≡ leaver s g
      → IsPipe (record s { row = with_station s.row g (left s g); outbox = told s.outbox to (Cell g unit.number ((station s g).round + 1) unit) })
  left_with to unit e =
      let m : Message = Cell g unit.number ((station s g).round + 1) unit in
      changed s s.packets (with_station s.row g (left s g)) (told s.outbox to m)
      (left_changes (told s.outbox to m) (length-set s.outbox.lines to _) refl (told_keeps s ok.messages ok.whole.boxes to m (goes_from to unit e).law refl)) ok

-- ---- from what the fields hold

-- the pipe to which a unit of the station that was read goes
pub taker_read : (s now : Pipe) (g : ℕ) (q : Station) (to : ℕ) → s ≡ now → IsPipe s → IsRow s.row → g < length now.row.stations → q ≡ station_at s.row g → q.round < length s.owners.plans
    → Some to ≡ taker_of (leaving q (next_moves q s.owners)) → to < length s.outbox.lines
taker_read s now g q to e ok row there at next some =
    let here : g < length s.row.stations = subst (λ (x : Pipe). g < length x.row.stations) (sym e) there in
    let known : (station s g).round < length s.owners.plans = subst (λ (x : Station). x.round < length s.owners.plans) at next in
    taker_within s ok row g here known to (subst (λ (x : Station). Some to ≡ taker_of (leaving x (next_moves x s.owners))) at some)

-- what is left, and that it is one event
pub record Leaves (s now : Pipe) (r : Row) (w : Waiting Message) : Type 0 where
  pub laws : IsPipe (record s { row = r; outbox = w })
  pub event : IsOneEvent now (record s { row = r; outbox = w })

module _ (s now : Pipe) (e : s ≡ now) (ok : IsPipe s) (row : IsRow now.row) (g : ℕ) (ready : CanLeave now g) where
  row_s : IsRow s.row
  row_s = subst (λ (x : Pipe). IsRow x.row) (sym e) row

  ready_s : CanLeave s g
  ready_s = subst (λ (x : Pipe). CanLeave x g) (sym e) ready

  pub leaves_here : g < length s.row.stations
  leaves_here = group_here s g ok.whole row_s ready_s.there

  pub leaves_to : (to : ℕ) (unit : PlacedUnit) → Some (to, unit) ≡ leaver s g → to < length s.outbox.lines
  leaves_to = goer_within s ok row_s g leaves_here ready_s.next

  -- the group is still there
  pub leaves_still : (r : Row) → r ≡ with_station s.row g (left s g) → g < length r.stations
  leaves_still r is =
      let long = length-set s.row.stations g (left s g) in
      let there = leaves_here in
      subst (λ (x : Row). g < length x.stations) (sym is) (omega (arith, long, there))

  pub leaves_alone : (r : Row) → r ≡ with_station s.row g (left s g) → leaver s g ≡ None → Leaves s now r s.outbox
  leaves_alone r is none = record {
    laws = subst (λ (x : Row). IsPipe (record s { row = x })) (sym is) (left_alone s ok row_s g leaves_here ready_s.next);
    event = subst (λ (x : Pipe). IsOneEvent x (record s { row = r })) e (leave g (record {
      ready = ready_s;
      pipe = (λ i. record s { row = is i }) ∙ ap (λ (x : Option (ℕ × PlacedUnit)). record (told_of_unit s g x) { row = with_station s.row g (left s g) }) (sym none);
    }));
  }

  pub leaves_with : (r : Row) (w : Waiting Message) (from to : ℕ) (unit : PlacedUnit) → r ≡ with_station s.row g (left s g) → Some (to, unit) ≡ leaver s g
      → from ≡ (station_at r g).round → w ≡ told s.outbox to (Cell g unit.number from unit) → Leaves s now r w
  leaves_with r w from to unit is some round box =
      let st : Station = left s g in
      let later : from ≡ (station s g).round + 1 =
      round ∙ ap (λ (x : Row). (station_at x g).round) is ∙ ap (λ (x : Station). x.round) (put_there s.row g st leaves_here) ∙ left_round_is s ok row_s g leaves_here ready_s.next in
      let outbox : w ≡ told s.outbox to (Cell g unit.number ((station s g).round + 1) unit) = box ∙ ap (λ n. told s.outbox to (Cell g unit.number n unit)) later in
      let all : ◌≡◌ {A = Pipe} (record s { row = r; outbox = w }) (record s { row = with_station s.row g st; outbox = told s.outbox to (Cell g unit.number ((station s g).round + 1) unit) }) = (λ i. record s { row = is i; outbox = outbox i }) in
      record {
        laws = subst IsPipe (sym all) (left_with s ok row_s g leaves_here ready_s.next to unit some);
        event = subst (λ (x : Pipe). IsOneEvent x (record s { row = r; outbox = w })) e (leave g (record {
          ready = ready_s;
          pipe = all ∙ ap (λ (x : Option (ℕ × PlacedUnit)). record (told_of_unit s g x) { row = with_station s.row g st }) some;
        }));
      }
