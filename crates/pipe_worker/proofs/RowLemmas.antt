-- A pipe whose stations, packets or messages change.
use Rattle.std.proofs.Common.{◌≡◌, ℕ, ◌<◌, ◌≤◌, length, slice_set, refl, sym, ap, subst, ◌∙◌, inl, inr, arith, get_or-set_same, get_or-set_other, length-set}
use Rattle.std.proofs.lemmas.Bool.Decides.{eqb_tells}
use Rattle.shard_rounds.specs.Rounds.{OwnerTable}
use Rattle.pipe_parts.specs.Waiting.{Waiting}
use Rattle.run_laws.specs.Run.{Run, unit_counts}
use Rattle.run_laws.specs.LawfulPlans.{AreLawful}
use Rattle.group_station.specs.Station.{Station}
use Rattle.group_station.specs.Steps.{first_station, AreOwnersFor}
use Rattle.packet_lines.specs.Lined.{Lined}
use Rattle.pipe_stations.specs.Row.{Row, IsRow, group_count, station_at, with_station}
use Rattle.pipe_stations.specs.RowSteps.{AreRowOwners}
use Rattle.pipe_stations.proofs.RowLemmas.{run_there}
use Rattle.pipe_messages.specs.declared.message.Message.{Message}
use Rattle.pipe_worker.specs.Pipe.{Pipe}
use Rattle.pipe_worker.specs.Laws.{IsDoorOf, IsWhole, HasPackets, HasArrivals, HasMessages, IsPipe}
use Rattle.pipe_worker.proofs.PacketLemmas.{kept}
use Rattle.pipe_worker.proofs.MessageLemmas.{messages_kept}

-- ---- one station of a row

-- the owners of all stations are those of each
pub owners_there : (r : Row) (o : OwnerTable) (g : ℕ) → IsRow r → g < length r.stations → AreRowOwners r o → AreOwnersFor (station_at r g) o
owners_there r o g row there h =
    let at : (station_at r g).run ≡ r.run = run_there r g row there in
    record {
      units = subst (λ (run : Run). o.units ≡ unit_counts run) (sym at) h.units;
      pipelines = subst (λ (run : Run). o.pipelines ≡ run.settings.pipelines) (sym at) h.pipelines;
      lawful = subst (λ (run : Run). AreLawful run o.plans) (sym at) h.lawful;
      known = h.known g there;
    }

-- the station that was put there
pub put_there : (r : Row) (g : ℕ) (x : Station) → g < length r.stations → station_at (with_station r g x) g ≡ x
put_there r g x there = get_or-set_same r.stations g x (first_station r.run r.pipe g) there

-- they are still its owners where a station changes whose round is reached
pub row_owners : (r : Row) (o : OwnerTable) (g : ℕ) (x : Station) → x.round ≤ length o.plans → AreRowOwners r o → AreRowOwners (with_station r g x) o
row_owners r o g x reached h = record { units = h.units; pipelines = h.pipelines; lawful = h.lawful; known = all }
  where
    all : (k : ℕ) → k < length (slice_set r.stations g x) → (station_at (with_station r g x) k).round ≤ length o.plans
    all k lt =
        let long = length-set r.stations g x in
        let there : k < length r.stations = omega (arith, long, lt) in
        elim (eqb_tells k g) [
          | inl e ↦ (let this : station_at (with_station r g x) k ≡ x = subst (λ n. station_at (with_station r n x) k ≡ x) e.1 (put_there r k x there) in
              subst (λ (y : Station). y.round ≤ length o.plans) (sym this) reached)
          | inr e ↦ subst (λ (y : Station). y.round ≤ length o.plans) (sym (get_or-set_other r.stations g k x (first_station r.run r.pipe k) e.1)) (h.known k there)
        ]

-- there is a station for each group
pub group_here : (s : Pipe) (g : ℕ) → IsWhole s → IsRow s.row → g < length s.run.code.groups → g < length s.row.stations
group_here s g whole row there =
    let all = row.all in
    let same : group_count s.row.run ≡ group_count s.run = ap group_count whole.run in
    omega (arith, there, all, same)

pub group_now : (s now : Pipe) (g : ℕ) → s ≡ now → IsPipe s → IsRow s.row → g < length now.run.code.groups → g < length s.row.stations
group_now s now g e ok row there = group_here s g ok.whole row (subst (λ (x : Pipe). g < length x.run.code.groups) (sym e) there)

pub run_here : (s : Pipe) (g : ℕ) → IsWhole s → IsRow s.row → g < length s.row.stations → (station_at s.row g).run ≡ s.run
run_here s g whole row there = run_there s.row g row there ∙ whole.run

-- ---- the laws where stations, packets and messages change

-- what is asked of them
pub record Changes (s : Pipe) (packets : Lined) (row : Row) (outbox : Waiting Message) : Type 0 where
  pub run : row.run ≡ s.row.run
  pub number : row.pipe ≡ s.row.pipe
  pub owners : AreRowOwners row s.owners
  pub pipes : packets.pipes ≡ s.packets.pipes
  pub window : packets.window ≡ s.packets.window
  pub count : length packets.packets ≡ length s.packets.packets
  pub here : HasPackets (record s { packets = packets })
  pub boxes : length outbox.lines ≡ length s.outbox.lines
  pub room : outbox.room ≡ s.outbox.room
  pub messages : (q : ℕ) → q < s.run.settings.pipelines → HasMessages (record s { outbox = outbox }) q

module _ (s : Pipe) (packets : Lined) (row : Row) (outbox : Waiting Message) (c : Changes s packets row outbox) (ok : IsPipe s) where
  abbrev changes : Pipe
  changes = record s { packets = packets; row = row; outbox = outbox }

  same_door : IsDoorOf changes s.door
  same_door = let d = ok.whole.door in record { pipe = d.pipe; pipelines = d.pipelines; arrivals = d.arrivals; window = d.window; fields = d.fields; slots = d.slots }

  still_whole : IsWhole changes
  still_whole = let w = ok.whole in record {
    pipe = w.pipe;
    wide = w.wide;
    run = c.run ∙ w.run;
    number = c.number ∙ w.number;
    owners = c.owners;
    plans = w.plans;
    door = same_door;
    pipes = c.pipes ∙ w.pipes;
    window = c.window ∙ w.window;
    packets = c.count ∙ w.packets;
    boxes = c.boxes ∙ w.boxes;
    room = c.room ∙ w.room;
  }

  still_home : HasArrivals changes
  still_home = record { known = ok.arrivals.known; home = λ t lt own home. let h = ok.arrivals.home t lt own home in record { fields = h.fields; entries = h.entries } }

  pub changed : IsPipe changes
  changed = record {
    whole = still_whole;
    packets = kept (record s { packets = packets }) changes refl refl refl (omega arith) (λ t away. away) c.here;
    arrivals = still_home;
    messages = messages_kept (record s { outbox = outbox }) changes refl refl refl refl c.messages;
  }
