-- Own events: what they leave as it was.
use Rattle.std.proofs.Common.{◌≡◌, ℕ, ◌+◌, ◌<◌, [], ◌∷◌, ◌++◌, length, slice_index, Option, Some, None, refl, sym, ap, subst, ◌∙◌, inl, inr, arith, get_or-set_same, get_or-set_other, length-set}
use Rattle.std.proofs.lemmas.List.{get_or-map}
use Rattle.std.proofs.lemmas.Bool.Decides.{eqb_tells}
use Rattle.code_forms.specs.declared.unit.Unit.{Unit as PlacedUnit}
use Rattle.pipe_parts.specs.Waiting.{Waiting, waits_for}
use Rattle.shard_rounds.specs.declared.plan.Move.{Move}
use Rattle.group_station.specs.Station.{Station}
use Rattle.group_station.specs.Steps.{after_serving, after_leaving, leaving, next_moves}
use Rattle.pipe_stations.specs.Row.{Row, station_at, with_station}
use Rattle.pipe_messages.specs.declared.message.Message.{Message}
use Rattle.pipe_messages.specs.declared.message.Message.TheVariants.{Phantom, Packet, Cell, Home}
use Rattle.pipe_messages.specs.Messages.{announced_by, phantoms_in}
use Rattle.pipe_worker.specs.declared.turn.Turn.{Turn}
use Rattle.pipe_worker.specs.declared.turn.Turn.TheVariants.{Did, Idle}
use Rattle.pipe_worker.specs.Pipe.{Pipe, waiting, station, told}
use Rattle.pipe_worker.specs.Laws.{IsPipe}
use Rattle.pipe_worker.specs.Events.{IsOneEvent, enter, skip, pass, send, home, serve, leave, leaver, told_of_unit, Entered}
use Rattle.pipe_driver.specs.Driver.{IsSamePipe, HasQueues}
use Rattle.pipe_driver.specs.Turning.{Turns}
use Rattle.pipe_driver.proofs.MessageLemmas.{phantom_count, quiet_more}
use Rattle.pipe_driver.proofs.LaneLemmas.{ToldStays}
use Rattle.pipe_driver.proofs.HearLemmas.{IsAlike, same_alike, with_alike, queues_kept}

-- what is left then
pub record Turned (s new : Pipe) : Type 0 where
  pub turns : Turns s new
  pub queues : HasQueues new

-- ---- rows

-- the same stations, but for what isn't their floors
pub record AreAlike (old new : Row) : Type 0 where
  pub count : length new.stations ≡ length old.stations
  pub each : (g : ℕ) → g < length old.stations → IsAlike (station_at old g) (station_at new g)

same_rows : (old new : Row) → new ≡ old → AreAlike old new
same_rows old new e = record { count = ap (λ (r : Row). length r.stations) e; each = λ g there. same_alike (station_at old g) (station_at new g) (ap (λ (r : Row). station_at r g) e) }

with_rows : (old new : Row) (g : ℕ) (x : Station) → IsAlike (station_at old g) x → new ≡ with_station old g x → AreAlike old new
with_rows old new g x alike e = subst (AreAlike old) (sym e) record { count = length-set old.stations g x; each = with_alike old g x alike }

turned : (s new : Pipe) → HasQueues s → IsSamePipe s new → AreAlike s.row new.row → ((q : ℕ) → q < s.run.settings.pipelines → ToldStays s new q) → Turned s new
turned s new queues same alike told' =
    let count = alike.count in
    record {
      turns = record {
        same = same;
        count = count;
        floors = λ p g there. ap (λ floors. slice_index floors p) (alike.each g (omega arith)).floors;
        told = told';
      };
      queues = queues_kept s new same.run count (λ g there. (alike.each g there).like) queues;
    }

-- ---- messages that wait

-- as many phantoms wait, where nothing was told
quiet_stays : (s new : Pipe) (q : ℕ) → new.outbox ≡ s.outbox → new.door.exit.entered ≡ s.door.exit.entered → ToldStays s new q
quiet_stays s new q box entered = λ i. length (phantoms_in (waits_for (box i) q)) + (sym entered i)

-- or a message that is no phantom
told_quiet : (o : Waiting Message) (to q : ℕ) (m : Message) → q < length o.lines → announced_by m ≡ [] → phantoms_in (waits_for (told o to m) q) ≡ phantoms_in (waits_for o q)
told_quiet o to q m there quiet = elim (eqb_tells q to) [
  | inl e ↦ ap (λ n. phantoms_in (waits_for (told o n m) q)) (sym e.1) ∙ ap phantoms_in (get_or-set_same o.lines q (waits_for o q ++ m ∷ []) [] there) ∙ quiet_more (waits_for o q) m quiet
  | inr e ↦ ap phantoms_in (get_or-set_other o.lines to q (waits_for o to ++ m ∷ []) [] e.1)
]

told_stays : (s new : Pipe) (to q : ℕ) (m : Message) → IsPipe s → q < s.run.settings.pipelines → announced_by m ≡ [] → new.outbox ≡ told s.outbox to m → new.door.exit.entered ≡ s.door.exit.entered → ToldStays s new q
told_stays s new to q m laws within quiet box entered =
    let boxes = laws.whole.boxes in
    let same : length (phantoms_in (waiting new q)) ≡ length (phantoms_in (waiting s q)) =
    ap (λ o. length (phantoms_in (waits_for o q))) box ∙ ap length (told_quiet s.outbox to q m (omega arith) quiet) in
    omega arith

-- ---- events

entered_turned : (s new : Pipe) (p : Rattle.pipe_parts.specs.declared.packet.Packet.Packet) (line : Option ℕ) → IsPipe s → HasQueues s → new.run ≡ s.run → new.pipe ≡ s.pipe → Entered s new p line → Turned s new
entered_turned s new p line laws queues run pipe done =
    turned s new queues (record { run = run; pipe = pipe; owners = done.owners }) (same_rows s.row new.row done.row)
    (λ q within.
    (let boxes = laws.whole.boxes in
    let box : waiting new q ≡ waiting s q ++ Phantom p.t p.units ∷ [] =
    ap (λ o. waits_for o q) done.outbox ∙ get_or-map (λ line'. line' ++ Phantom p.t p.units ∷ []) s.outbox.lines q [] [] (omega arith) in
    let more : length (phantoms_in (waiting new q)) ≡ length (phantoms_in (waiting s q)) + 1 = ap (λ ms. length (phantoms_in ms)) box ∙ phantom_count (waiting s q) (Phantom p.t p.units) in
    let entered : new.door.exit.entered ≡ s.door.exit.entered + 1 = ap (λ (e : Rattle.egress_order.specs.OwnPackets.OwnPackets). e.entered) done.exit in
    omega arith))

-- where the packets and the door alone change
beside_turned : (s new to : Pipe) → HasQueues s → new ≡ to → to.run ≡ s.run → to.pipe ≡ s.pipe → to.owners ≡ s.owners → to.outbox ≡ s.outbox → to.door.exit.entered ≡ s.door.exit.entered → AreAlike s.row to.row → Turned s new
beside_turned s new to queues e run pipe owners box entered rows =
    subst (Turned s) (sym e) (turned s to queues (record { run = run; pipe = pipe; owners = owners }) rows (λ q within. quiet_stays s to q box entered))

-- where a message was told
told_turned : (s new to : Pipe) (line : ℕ) (m : Message) → IsPipe s → HasQueues s → new ≡ to → to.run ≡ s.run → to.pipe ≡ s.pipe → to.owners ≡ s.owners → announced_by m ≡ [] → to.outbox ≡ told s.outbox line m → to.door.exit.entered ≡ s.door.exit.entered → AreAlike s.row to.row → Turned s new
told_turned s new to line m laws queues e run pipe owners quiet box entered rows =
    subst (Turned s) (sym e) (turned s to queues (record { run = run; pipe = pipe; owners = owners }) rows (λ q within. told_stays s to line q m laws within quiet box entered))

leaving_alike : (x : Station) (m : Option Move) → IsAlike x (after_leaving x m)
leaving_alike x None = record { like = record { of_run = refl; sources = refl; limit = refl; size = refl }; floors = refl }
leaving_alike x (Some m) = record { like = record { of_run = refl; sources = refl; limit = refl; size = refl }; floors = refl }

left_turned : (s new : Pipe) (g : ℕ) (gone : Option (ℕ × PlacedUnit)) (x : Station) → IsPipe s → HasQueues s → IsAlike (station s g) x → new ≡ record (told_of_unit s g gone) { row = with_station s.row g x } → Turned s new
left_turned s new g None x laws queues alike e = beside_turned s new (record s { row = with_station s.row g x }) queues e refl refl refl refl refl (with_rows s.row (with_station s.row g x) g x alike refl)
left_turned s new g (Some gone) x laws queues alike e =
    told_turned s new (record (told_of_unit s g (Some gone)) { row = with_station s.row g x }) gone.0 (Cell g gone.1.number ((station s g).round + 1) gone.1) laws queues e refl refl refl refl refl refl
    (with_rows s.row (with_station s.row g x) g x alike refl)

pub one_event : (s new : Pipe) → IsPipe s → IsPipe new → HasQueues s → IsOneEvent s new → Turned s new
one_event s new laws after queues (enter p line done) =
    let run : new.run ≡ s.run = sym after.whole.run ∙ ap (λ (r : Row). r.run) done.row ∙ laws.whole.run in
    let pipe : new.pipe ≡ s.pipe = sym after.whole.number ∙ ap (λ (r : Row). r.pipe) done.row ∙ laws.whole.number in
    entered_turned s new p line laws queues run pipe done
one_event s new laws after queues (skip p q line done) = beside_turned s new _ queues done.pipe refl refl refl refl refl (same_rows s.row s.row refl)
one_event s new laws after queues (pass p to done) = told_turned s new _ to (Packet p.t p.g p.env p.by p.touched) laws queues done.pipe refl refl refl refl refl refl (same_rows s.row s.row refl)
one_event s new laws after queues (send p to done) = told_turned s new _ to (Home p.t p.env p.by p.touched) laws queues done.pipe refl refl refl refl refl refl (same_rows s.row s.row refl)
one_event s new laws after queues (home p done) = beside_turned s new _ queues done.pipe refl refl refl refl refl (same_rows s.row s.row refl)
one_event s new laws after queues (serve g place p q line done) =
    beside_turned s new _ queues done.pipe refl refl refl refl refl
    (with_rows s.row _ g (after_serving (station s g) place) (record { like = record { of_run = refl; sources = refl; limit = refl; size = refl }; floors = refl }) refl)
one_event s new laws after queues (leave g done) =
    left_turned s new g (leaver s g) (after_leaving (station s g) (leaving (station s g) (next_moves (station s g) s.owners))) laws queues
    (leaving_alike (station s g) (leaving (station s g) (next_moves (station s g) s.owners))) done.pipe

-- a turn did one, or none
pub one_turn : (t : Turn) (s new : Pipe) → IsPipe s → IsPipe new → HasQueues s → (t ≡ Did → IsOneEvent s new) → (t ≡ Idle → new ≡ s) → Turned s new
one_turn Did s new laws after queues did kept = one_event s new laws after queues (did refl)
one_turn Idle s new laws after queues did kept = beside_turned s new s queues (kept refl) refl refl refl refl refl (same_rows s.row s.row refl)

-- ---- own events one after another

-- none was done
pub turns_none : (s : Pipe) → Turns s s
turns_none s = record { same = record { run = refl; pipe = refl; owners = refl }; count = refl; floors = λ p g there. refl; told = λ q within. refl }

-- and one more
pub turns_more : (s mid new : Pipe) → Turns s mid → Turns mid new → Turns s new
turns_more s mid new first more =
    let same = more.same in
    let before = first.same in
    let count = more.count in
    record {
      same = record { run = same.run ∙ before.run; pipe = same.pipe ∙ before.pipe; owners = same.owners ∙ before.owners };
      count = count ∙ first.count;
      floors = λ p g there. more.floors p g there ∙ first.floors p g (omega arith);
      told = λ q within.
          (let one = first.told q within in
          let two = more.told q (subst (λ (r : Rattle.run_laws.specs.Run.Run). q < r.settings.pipelines) (sym before.run) within) in
          omega arith);
    }
