-- Messages that are offered: a phantom that is announced, a unit that is taken into hand, and a packet that is taken in.
use Rattle.std.proofs.Common.{◌≡◌, ◌≢◌, ◌↔◌, ◌⊎◌, ℕ, ◌/◌, ◌%◌, ◌<◌, ◌≤◌, ◌==◌, nat_lt, Bool, true, false, not, ℤ, List, length, slice_set, slice_index_or, is_ok, Option, Some, None, IsSome, IsTrue, OnOk, OnErr, refl, sym, ap, subst, ◌∙◌, inl, inr, arith, get_or-set_same, get_or-set_other, length-set, mod-lt}
use Rattle.std.proofs.Math.Nat.{mod-add-div'}
use Rattle.std.specs.declared.result.Result.{Result}
use Rattle.std.specs.declared.result.Result.TheVariants.{Ok, Err}
use Rattle.std.proofs.lemmas.Bool.{ltb-true, eqb-true}
use Rattle.std.proofs.lemmas.Bool.Decides.{eqb_tells, nat_tests}
use Rattle.code_forms.specs.declared.unit.Unit.{Unit as PlacedUnit}
use Rattle.shard_rounds.specs.Rounds.{OwnerTable}
use Rattle.pipe_parts.specs.Waiting.{Waiting}
use Rattle.home_door.specs.Door.{Door}
use Rattle.pipe_messages.specs.declared.message.Message.{Message}
use Rattle.pipe_messages.specs.declared.message.Message.TheVariants.{Home}
use Rattle.run_laws.specs.Run.{Run, unit_counts, units_before, round_of, home_of}
use Rattle.run_laws.specs.LawfulPlans.{AreLawful}
use Rattle.group_station.specs.Station.{Station, Site, site, width_at, OwnsAt, round_start}
use Rattle.group_station.specs.Steps.{first_station, IsUnitFor, after_taking}
use Rattle.egress_order.specs.OwnPackets.{OwnPackets, own_arrival, is_home, IsAway}
use Rattle.packet_lines.specs.Lined.{Lined, lined_packet, home_count, with_lined, AreLined}
use Rattle.packet_steps.specs.Packet.{IsPacket}
use Rattle.pipe_parts.specs.declared.packet.Packet.{Packet as PacketHere}
use Rattle.pipe_stations.specs.Row.{Row, IsRow, station_at, site_at, with_station}
use Rattle.pipe_stations.specs.RowSteps.{AreRowOwners, ArePlaces, IsAnnounced, HasRoom, IsFull}
use Rattle.pipe_messages.specs.Messages.{IsMessage, IsPhantom, IsHandedOver, IsHomeBound}
use Rattle.pipe_worker.specs.Pipe.{Pipe, station, line_for, IsStanding}
use Rattle.pipe_worker.specs.Laws.{IsPipe, HasPackets}
use Rattle.pipe_worker.specs.Offers.{IsCrowded, full, here, in_or_gone, IsUnplanned}
use Rattle.pipe_worker.proofs.PacketLemmas.{kept, comes}
use Rattle.pipe_worker.proofs.MessageLemmas.{messages_kept}
use Rattle.pipe_worker.proofs.KeepLemmas.{arrivals_kept}

-- ---- a pipe with other stations and other packets

-- the shapes of two collections of packets are one
pub record AreAlike (p q : Lined) : Type 0 where
  pub pipes : q.pipes ≡ p.pipes
  pub window : q.window ≡ p.window
  pub size : length q.packets ≡ length p.packets

module _ (s : Pipe) (row : Row) (packets : Lined) (laws : IsPipe s) where
  abbrev changed : Pipe
  changed = record s { row = row; packets = packets }

  -- where the stations are of the same run and have its owners, and the packets keep their law, it is one
  pub changed_lawful : row.run ≡ s.row.run → row.pipe ≡ s.row.pipe → AreRowOwners row s.owners → AreAlike s.packets packets → HasPackets changed → IsPipe changed
  changed_lawful run pipe owners alike packed =
      let w = laws.whole in
      let d = w.door in record {
        whole = record {
          pipe = w.pipe;
          wide = w.wide;
          run = run ∙ w.run;
          number = pipe ∙ w.number;
          owners = owners;
          plans = w.plans;
          door = record { pipe = d.pipe; pipelines = d.pipelines; arrivals = d.arrivals; window = d.window; fields = d.fields; slots = d.slots };
          pipes = alike.pipes ∙ w.pipes;
          window = alike.window ∙ w.window;
          packets = alike.size ∙ w.packets;
          boxes = w.boxes;
          room = w.room;
        };
        packets = packed;
        arrivals = arrivals_kept s changed refl refl refl refl (omega arith) laws.arrivals;
        messages = messages_kept s changed refl refl refl refl laws.messages;
      }

-- other stations alone
pub row_lawful : (s : Pipe) (row : Row) → IsPipe s → row.run ≡ s.row.run → row.pipe ≡ s.row.pipe → AreRowOwners row s.owners → IsPipe (record s { row = row })
row_lawful s row laws run pipe owners =
    changed_lawful s row s.packets laws run pipe owners (record { pipes = refl; window = refl; size = refl })
    (kept s (record s { row = row }) refl refl refl (omega arith) (λ t away. away) laws.packets)

-- ---- phantoms

-- a phantom's units are the places of its arrival
pub places_told : (s now : Pipe) → s ≡ now → IsPipe s → (from t : ℕ) (units : List ℕ) → IsPhantom now.run from t units → ArePlaces s.row.run t units
places_told s now e laws from t units law =
    let at : s.row.run ≡ now.run = laws.whole.run ∙ ap (λ (x : Pipe). x.run) e in
    subst (λ (r : Run). ArePlaces r t units) (sym at) (record { places = law.places.numbers; within = law.places.known })

-- the owners stay those of the stations that heard of an arrival
owners_heard : (r new : Row) (o : OwnerTable) (source t : ℕ) → IsAnnounced r new source t → AreRowOwners r o → AreRowOwners new o
owners_heard r new o source t heard owners = record {
  units = owners.units ∙ ap unit_counts (sym heard.run);
  pipelines = owners.pipelines ∙ ap (λ (x : Run). x.settings.pipelines) (sym heard.run);
  lawful = subst (λ (x : Run). AreLawful x o.plans) (sym heard.run) owners.lawful;
  known = λ g there.
      (let old : g < length r.stations = omega (arith, there, heard.count) in
      subst (λ (y : Station). y.round ≤ length o.plans) (sym (heard.each g old).station) (owners.known g old));
}

-- a pipe whose stations heard of an arrival, or didn't
pub heard_lawful : {A E : Type 0} (r : Result A E) (s : Pipe) (row : Row) (from t : ℕ) → IsPipe s → OnOk r (IsAnnounced s.row row from t) → OnErr r (row ≡ s.row) → IsPipe (record s { row = row })
heard_lawful (Ok x) s row from t laws heard kept = row_lawful s row laws heard.run heard.pipe (owners_heard s.row row s.owners from t heard laws.whole.owners)
heard_lawful (Err x) s row from t laws heard kept = subst (λ (y : Row). IsPipe (record s { row = y })) (sym kept) laws

room_not_full : (r : Row) (source t : ℕ) → HasRoom r source t → IsFull r source t → ⊥
room_not_full r source t room crowd =
    let less = room crowd.group crowd.unit crowd.there crowd.given in
    let all = crowd.full in
    omega arith

-- a phantom that was announced had room, and the plan of its round was known
pub heard_open : {A E : Type 0} (r : Result A E) (s now : Pipe) (from t : ℕ) → s ≡ now → IsTrue (is_ok r) → OnOk r (HasRoom s.row from t) → round_of now.run t ≤ length now.owners.plans → IsUnplanned now t ⊎ IsFull now.row from t → ⊥
heard_open r s now from t e yes' room known (inl unknown) = unknown known
heard_open (Ok x) s now from t e yes' room known (inr crowd) = room_not_full now.row from t (subst (λ (p : Pipe). HasRoom p.row from t) e room) crowd
heard_open (Err x) s now from t e yes' room known (inr crowd) = absurd (cc)

-- ---- units

-- the owners stay those of the stations, where another station of a group is in the same round
owners_with : (r : Row) (o : OwnerTable) (g : ℕ) (x : Station) → AreRowOwners r o → x.round ≡ (station_at r g).round → AreRowOwners (with_station r g x) o
owners_with r o g x owners round = record { units = owners.units; pipelines = owners.pipelines; lawful = owners.lawful; known = known }
  where
    known : (k : ℕ) → k < length (slice_set r.stations g x) → (station_at (with_station r g x) k).round ≤ length o.plans
    known k there =
        let long = length-set r.stations g x in
        let old : k < length r.stations = omega (arith, there, long) in
        elim (eqb_tells k g) [
          | inl h ↦ (let this : k ≡ g = h.1 in
              let now : slice_index_or (slice_set r.stations g x) g (first_station r.run r.pipe g) ≡ x = get_or-set_same r.stations g x (first_station r.run r.pipe g) (subst (λ n. n < length r.stations) this old) in
              subst (λ n. (station_at (with_station r g x) n).round ≤ length o.plans) (sym this)
              (subst (λ (y : Station). y.round ≤ length o.plans) (sym now) (subst (λ n. n ≤ length o.plans) (sym round) (owners.known g (subst (λ n. n < length r.stations) this old)))))
          | inr h ↦ subst (λ (y : Station). y.round ≤ length o.plans) (sym (get_or-set_other r.stations g k x (first_station r.run r.pipe k) h.1)) (owners.known k old)
        ]

-- a group of the run has a station
pub group_there : (s now : Pipe) (group : ℕ) → s ≡ now → IsPipe s → IsRow s.row → group < length now.run.code.groups → group < length s.row.stations
group_there s now group e laws row there =
    let at : s.row.run ≡ now.run = laws.whole.run ∙ ap (λ (x : Pipe). x.run) e in
    let groups : length s.row.run.code.groups ≡ length now.run.code.groups = ap (λ (x : Run). length x.code.groups) at in
    let all = row.all in
    omega (arith, groups, all, there)

-- a unit that is handed over fits the station of its group
fits_at : (r : Row) (from : ℕ) (unit : PlacedUnit) → IsRow r → unit.group < length r.stations → IsHandedOver r.run r.pipe unit.group unit.number from unit → IsUnitFor (station_at r unit.group) from unit
fits_at r from unit row there law =
    let at : site (station_at r unit.group) ≡ site_at r unit.group = row.sites unit.group there in record {
      group = sym (ap (λ (a : Site). a.group) at);
      number = subst (λ (a : Site). unit.number < width_at a) (sym at) law.within;
      owned = subst (λ (a : Site). OwnsAt a from unit.number) (sym at) law.owned;
      cells = law.cells ∙ ap (λ (a : Site). units_before a.run (round_start a from) a.group unit.number) (sym at);
    }

pub unit_fits : (s now : Pipe) (from : ℕ) (unit : PlacedUnit) → s ≡ now → IsPipe s → IsRow s.row → unit.group < length s.row.stations → IsHandedOver now.run now.pipe unit.group unit.number from unit → IsUnitFor (station_at s.row unit.group) from unit
unit_fits s now from unit e laws row there law =
    let run : s.row.run ≡ now.run = laws.whole.run ∙ ap (λ (x : Pipe). x.run) e in
    let pipe : s.row.pipe ≡ now.pipe = laws.whole.number ∙ ap (λ (x : Pipe). x.pipe) e in
    fits_at s.row from unit row there
    (subst (λ (r : Run). IsHandedOver r s.row.pipe unit.group unit.number from unit) (sym run) (subst (λ p. IsHandedOver now.run p unit.group unit.number from unit) (sym pipe) law))

-- a pipe that took a unit into hand, or didn't
pub taken_lawful : {A E : Type 0} (r : Result A E) (s : Pipe) (row : Row) (unit : PlacedUnit) → IsPipe s → OnOk r (row ≡ with_station s.row unit.group (after_taking (station s unit.group) unit)) → OnErr r (row ≡ s.row) → IsPipe (record s { row = row })
taken_lawful (Ok x) s row unit laws taken kept =
    let next : Row = with_station s.row unit.group (after_taking (station s unit.group) unit) in
    subst (λ (y : Row). IsPipe (record s { row = y })) (sym taken)
    (row_lawful s next laws refl refl (owners_with s.row s.owners unit.group (after_taking (station s unit.group) unit) laws.whole.owners refl))
taken_lawful (Err x) s row unit laws taken kept = subst (λ (y : Row). IsPipe (record s { row = y })) (sym kept) laws

-- ---- room for a packet

-- the arrival is an own one that is out, or isn't
away_or_not : (e : OwnPackets) (t : ℕ) → IsAway e t ⊎ (IsAway e t → ⊥)
away_or_not e t = by (t % e.pipelines == e.pipe) (nat_lt (t / e.pipelines) e.entered) (is_home e (t / e.pipelines)) refl refl refl
  where
    by : (a b c : Bool) → (t % e.pipelines == e.pipe) ≡ a → nat_lt (t / e.pipelines) e.entered ≡ b → is_home e (t / e.pipelines) ≡ c → IsAway e t ⊎ (IsAway e t → ⊥)
    by true true false own entered away = inl (record { own = eqb-true (t % e.pipelines) e.pipe own; entered = ltb-true (t / e.pipelines) e.entered entered; away = away })
    by false b c own entered away = inr (λ out. absurd (let is = out.own in grind (arith, nat_tests)))
    by true false c own entered away = inr (λ out. absurd (let is = out.entered in grind (arith, nat_tests)))
    by true true true own entered away = inr (λ out. absurd (let is = out.away in cc))

-- a pipe by its parts
abbrev pub of_parts : Run → ℕ → OwnerTable → Door → Lined → Row → Waiting Message → Pipe
of_parts run pipe owners door packets row outbox = record { run = run; pipe = pipe; owners = owners; door = door; packets = packets; row = row; outbox = outbox }

-- what is read of the counts and of the packets
module _ (s now : Pipe) (t n : ℕ) (e : s ≡ now) (count : n ≡ home_count s.packets (home_of s.run t)) where
  pub crowd_full : n ≡ s.run.settings.window → IsCrowded now t
  crowd_full all = subst (λ (p : Pipe). IsCrowded p t) e (full (sym count ∙ all))

  module _ (few : n ≢ s.run.settings.window) (has : Bool) (found : IsTrue has ↔ IsSome (lined_packet s.packets t)) (none : has ≡ false) where
    only_own : IsCrowded s t → (home_of s.run t ≡ s.pipe) × (IsAway s.door.exit t → ⊥)
    only_own (full all) = absurd (few (count ∙ all))
    only_own (here some) = (let yes' : has ≡ true = found.1 some in absurd (cc))
    only_own (in_or_gone own out) = (own, out)

    -- it is an own one
    pub own_crowded : (away : Bool) → home_of s.run t ≡ s.pipe → IsTrue away ↔ IsAway s.door.exit t → IsTrue (not away) ↔ IsCrowded now t
    own_crowded away own out = subst (λ (p : Pipe). IsTrue (not away) ↔ IsCrowded p t) e (by away out)
      where
        by : (b : Bool) → IsTrue b ↔ IsAway s.door.exit t → IsTrue (not b) ↔ IsCrowded s t
        by true is_out = ((λ no. absurd (cc)), (λ crowd. absurd ((only_own crowd).1 (is_out.0 refl))))
        by false is_out = ((λ _. in_or_gone own (λ out'. (let yes' : false ≡ true = is_out.1 out' in absurd (cc)))), (λ _. refl))

    -- it is another's
    pub other_crowded : home_of s.run t ≢ s.pipe → IsTrue (home_of s.run t == s.pipe) ↔ IsCrowded now t
    other_crowded other = subst (λ (p : Pipe). IsTrue (home_of s.run t == s.pipe) ↔ IsCrowded p t) e ((λ same. absurd (other (eqb-true (home_of s.run t) s.pipe same))), (λ crowd. absurd (other (only_own crowd).0)))

-- ---- a packet that is taken in

none_of : {A : Type 0} (o : Option A) → (IsSome o → ⊥) → o ≡ None
none_of None absent = refl
none_of (Some x) absent = absurd (absent refl)

-- what isn't crowded
module _ (s : Pipe) (t : ℕ) (crowd : IsCrowded s t → ⊥) where
  absent : lined_packet s.packets t ≡ None
  absent = none_of (lined_packet s.packets t) (λ some. crowd (here some))

  -- an own arrival is out
  out : home_of s.run t ≡ s.pipe → IsAway s.door.exit t
  out own = elim (away_or_not s.door.exit t) [ inl away ↦ away | inr other ↦ absurd (crowd (in_or_gone own other)) ]

  few : IsPipe s → AreLined s.packets → home_count s.packets (t % s.packets.pipes) < s.packets.window
  few laws lined =
      let some = lined.some in
      let most = lined.few (t % s.packets.pipes) (mod-lt t (omega arith)) in
      let home : t % s.packets.pipes ≡ home_of s.run t = ap (λ n. t % n) laws.whole.pipes in
      let window = laws.whole.window in
      let other : home_count s.packets (t % s.packets.pipes) ≢ s.packets.window = λ all. crowd (full (ap (home_count s.packets) (sym home) ∙ all ∙ window)) in
      omega (arith, most, other)

-- fewer than the window of its home are here
pub room_there : (s now : Pipe) (t u : ℕ) → s ≡ now → IsPipe s → AreLined s.packets → (IsCrowded now t → ⊥) → u ≡ t → home_count s.packets (u % s.packets.pipes) < s.packets.window
room_there s now t u e laws lined crowd is =
    subst (λ n. home_count s.packets (n % s.packets.pipes) < s.packets.window) (sym is)
    (few s t (subst (λ (p : Pipe). IsCrowded p t → ⊥) (sym e) crowd) laws lined)

-- a packet that stands where its heading says
stands : (s : Pipe) (p : PacketHere) (packets : Lined) → IsPipe s → AreLined s.packets → (IsCrowded s p.t → ⊥) → IsPacket s.run p → round_of s.run p.t ≤ length s.owners.plans → IsStanding s.run s.pipe s.packets packets p → IsPipe (record s { packets = packets })
stands s p packets laws lined crowd packet known standing =
    let next : Lined = with_lined s.packets p (line_for s.pipe standing.heading) in
    let whole = laws.whole.packets in
    let arrival = packet.way.arrival in
    subst (λ (l : Lined). IsPipe (record s { packets = l })) (sym standing.packets)
    (changed_lawful s s.row next laws refl refl laws.whole.owners (record { pipes = refl; window = refl; size = length-set s.packets.packets p.t (Some p) })
    (comes s laws.whole.pipe laws.whole.pipes lined laws.packets p standing.heading (omega (arith, whole, arrival)) (absent s p.t crowd) packet known (out s p.t crowd) standing.next))

pub taken_in : (s now : Pipe) (t : ℕ) (p : PacketHere) (packets : Lined) → s ≡ now → IsPipe s → AreLined s.packets → (IsCrowded now t → ⊥) → p.t ≡ t → IsPacket s.run p → round_of now.run t ≤ length now.owners.plans → IsStanding s.run s.pipe s.packets packets p → IsPipe (record s { packets = packets })
taken_in s now t p packets e laws lined crowd is packet known standing =
    stands s p packets laws lined
    (subst (λ (x : Pipe). IsCrowded x p.t → ⊥) (sym e) (subst (λ n. IsCrowded now n → ⊥) (sym is) crowd))
    packet
    (subst (λ (x : Pipe). round_of x.run p.t ≤ length x.owners.plans) (sym e) (subst (λ n. round_of now.run n ≤ length now.owners.plans) (sym is) known))
    standing

-- an own arrival that is out has entered, so the plan of its round is known
pub home_known : (s now : Pipe) (from t : ℕ) (m : Message) (env : List ℤ) (by touched : List ℕ) → s ≡ now → IsPipe s → m ≡ Home t env by touched → IsMessage now.run from now.pipe m → (IsCrowded now t → ⊥) → round_of now.run t ≤ length now.owners.plans
home_known s now from t m env by touched e laws is law crowd =
    let whole : IsPipe now = subst IsPipe e laws in
    let bound : IsHomeBound now.run now.pipe t env by touched = subst (IsMessage now.run from now.pipe) is law in
    let away : IsAway now.door.exit t = out now t crowd bound.home in
    let own : own_arrival now.door.exit (t / now.door.exit.pipelines) ≡ t = own_of now.door.exit t away in
    subst (λ n. round_of now.run n ≤ length now.owners.plans) own (whole.arrivals.known (t / now.door.exit.pipelines) away.entered)
  where
    own_of : (x : OwnPackets) (n : ℕ) → IsAway x n → own_arrival x (n / x.pipelines) ≡ n
    own_of x n away =
        let all = mod-add-div' n x.pipelines in
        let own = away.own in
        omega arith
