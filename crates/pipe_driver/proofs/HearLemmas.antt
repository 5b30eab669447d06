-- Messages that are taken in.
use Rattle.std.proofs.Common.{◌≡◌, ◌≢◌, ℕ, ◌+◌, ◌*◌, ◌<◌, min, List, [], length, slice_index, Option, Some, None, IfSome, refl, sym, ap, subst, ◌∙◌, inl, inr, arith, get_or-set_same, get_or-set_other, length-set, add-mul}
use Rattle.std.specs.List.{All}
use Rattle.std.proofs.Math.Nat.{one-mul}
use Rattle.pipe_parts.specs.declared.packet.Packet.{Packet as PacketHere}
use Rattle.std.proofs.lemmas.List.{append-nil}
use Rattle.std.proofs.lemmas.Bool.Decides.{eqb_tells}
use Rattle.pair_lane.specs.Lane.{after}
use Rattle.run_laws.specs.Run.{Run, arrivals}
use Rattle.group_station.specs.Station.{Station}
use Rattle.group_station.specs.Steps.{first_station, after_taking}
use Rattle.pipe_stations.specs.Row.{Row, station_at, with_station}
use Rattle.pipe_stations.specs.RowSteps.{IsTurn, IsAnnounced}
use Rattle.pipe_messages.specs.declared.message.Message.{Message}
use Rattle.pipe_messages.specs.declared.message.Message.TheVariants.{Phantom, Packet, Cell, Home}
use Rattle.pipe_messages.specs.Messages.{IsMessage, IsNextPhantom, Fits, announced_by, phantoms_in, own_arrivals}
use Rattle.pipe_worker.specs.Pipe.{Pipe, station}
use Rattle.pipe_worker.specs.Offers.{IsNextOf, IsAccepted, IsOnlyRow, IsTakenIn}
use Rattle.switch_worker.specs.Worker.{LaneEnd, IsLane}
use Rattle.pipe_driver.specs.Driver.{IsReceiver, HasFloors, IsSamePipe, HasQueues, IsQueued}
use Rattle.pipe_driver.specs.Turning.{FloorsStay, Hears, IsFromLane, was_held, was_received}
use Rattle.pipe_driver.proofs.MessageLemmas.{phantom_count, quiet_more, order_more, early_more}

floor_step : (t p k n m : ℕ) → t ≡ p + n * k → m ≡ n + 1 → t + k ≡ p + m * k
floor_step t p k n m next long = (λ i. next i + k) ∙ (let e : (n + 1) * k ≡ n * k + k = add-mul n 1 k ∙ ap (λ x. n * k + x) (one-mul k) in omega (arith, e)) ∙ ap (λ x. p + x * k) (sym long)

-- ---- a message that comes to hand

-- what a message says, by the lane's key
fits_law : (run : Run) (from to : ℕ) (end : LaneEnd) (ms : List Message) (m : Message) → IsLane run from to end → Fits end.key ms m → IsMessage run from to m
fits_law run from to end ms m lane fits =
    subst (λ (x : Run × ℕ × ℕ). IsMessage x.0 x.1 x.2 m) (λ i. (lane.of_run i, lane.sender i, lane.receiver i)) fits.law

fits_turn : (run : Run) (from to : ℕ) (end : LaneEnd) (ms : List Message) (m : Message) → IsLane run from to end → Fits end.key ms m → IsNextPhantom run from ms m
fits_turn run from to end ms m lane fits =
    subst (λ (x : Run × ℕ). IsNextPhantom x.0 x.1 ms m) (λ i. (lane.of_run i, lane.sender i)) fits.turn

-- where nothing is held, all that was received was taken in
all_taken : (s : Pipe) (p : ℕ) (end : LaneEnd) (h : IsReceiver s p end None) → h.taken ≡ end.items
all_taken s p end h = sym (h.items ∙ append-nil h.taken)

received : (s : Pipe) (p : ℕ) (end : LaneEnd) (m : Message) → IsReceiver s p end None → Fits end.key end.items m → IsReceiver s p (after end m) (Some m)
received s p end m h fits =
    let law : IsMessage s.run p s.pipe m = fits_law s.run p s.pipe end end.items m h.lane fits in
    let next : IsNextPhantom s.run p end.items m = fits_turn s.run p s.pipe end end.items m h.lane fits in
    record {
      lane = record { of_run = h.lane.of_run; sender = h.lane.sender; receiver = h.lane.receiver };
      taken = end.items;
      items = refl;
      next = fits;
      order = order_more s.run p end.items m next h.order;
      early = early_more s.run p s.pipe end.items m law h.early;
      floors = subst (λ (ms : List Message). HasFloors s p (length (phantoms_in ms))) (all_taken s p end h) h.floors;
    }

pub in_hand : (s : Pipe) (p : ℕ) (end new : LaneEnd) (held : Option Message) (m : Message) → IsReceiver s p end held → IsFromLane end new m held → IsReceiver s p new (Some m)
in_hand s p end new _ m h (was_held same) = subst (λ (e : LaneEnd). IsReceiver s p e (Some m)) (sym same) h
in_hand s p end new _ m h (was_received more fits) = subst (λ (e : LaneEnd). IsReceiver s p e (Some m)) (sym more) (received s p end m h fits)

-- ---- a message in hand is offered

pub offer_law : (s : Pipe) (p : ℕ) (end : LaneEnd) (m : Message) → IsReceiver s p end (Some m) → IsMessage s.run p s.pipe m
offer_law s p end m h = fits_law s.run p s.pipe end h.taken m h.lane h.next

-- the floors where a phantom comes next
floors_turn : (s : Pipe) (p n t : ℕ) → HasFloors s p n → t < arrivals s.run → t ≡ p + n * s.run.settings.pipelines → IsTurn s.row p t
floors_turn s p n t floors early next g there = floors g there ∙ (let lt : p + n * s.run.settings.pipelines < arrivals s.run = subst (λ k. k < arrivals s.run) next early in omega (arith, lt, next))

pub offer_turn : (s : Pipe) (p : ℕ) (end : LaneEnd) (m : Message) → IsReceiver s p end (Some m) → IsNextOf s p m
offer_turn s p end (Phantom t units) h =
    floors_turn s p (length (phantoms_in h.taken)) t h.floors (offer_law s p end (Phantom t units) h).arrival (fits_turn s.run p s.pipe end h.taken (Phantom t units) h.lane h.next)
offer_turn s p end (Packet t g env by touched) h = tt
offer_turn s p end (Cell g u round unit) h = tt
offer_turn s p end (Home t env by touched) h = tt

-- ---- and taken in

-- what is left then
pub record Heard (s new : Pipe) (p : ℕ) (end : LaneEnd) : Type 0 where
  pub lane : IsReceiver new p end None
  pub queues : HasQueues new
  pub hears : Hears p s new

-- all that was received was taken in
taken_all : (s new : Pipe) (p : ℕ) (end : LaneEnd) (m : Message) → IsReceiver s p end (Some m) → IsSamePipe s new → HasFloors new p (length (phantoms_in end.items)) → IsReceiver new p end None
taken_all s new p end m h same floors = record {
  lane = record { of_run = h.lane.of_run ∙ sym same.run; sender = h.lane.sender; receiver = h.lane.receiver ∙ sym same.pipe };
  taken = end.items;
  items = sym (append-nil end.items);
  next = tt;
  order = h.order ∙ ap (λ (r : Run). own_arrivals r p 0 (length (phantoms_in end.items))) (sym same.run);
  early = subst (λ (r : Run). All (λ t. t < arrivals r) (phantoms_in end.items)) (sym same.run) h.early;
  floors = floors;
}

-- a station whose queue changed, but not its shape
pub record IsLike (x y : Station) : Type 0 where
  pub of_run : y.run ≡ x.run
  pub sources : y.queue.sources ≡ x.queue.sources
  pub limit : y.queue.arrivals ≡ x.queue.arrivals
  pub size : length y.queue.floors ≡ length x.queue.floors

like_queued : (run run' : Run) (x y : Station) → run' ≡ run → IsLike x y → IsQueued run x → IsQueued run' y
like_queued run run' x y e like h = record {
  of_run = like.of_run ∙ h.of_run ∙ sym e;
  sources = like.sources ∙ h.sources ∙ ap (λ (r : Run). r.settings.pipelines) (sym e);
  limit = like.limit ∙ h.limit ∙ ap arrivals (sym e);
  size = like.size ∙ h.size ∙ ap (λ (r : Run). r.settings.pipelines) (sym e);
}

pub queues_kept : (s new : Pipe) → new.run ≡ s.run → length new.row.stations ≡ length s.row.stations → ((g : ℕ) → g < length s.row.stations → IsLike (station s g) (station new g)) → HasQueues s → HasQueues new
queues_kept s new run count like h = record {
  count = count ∙ h.count ∙ ap (λ (r : Run). length r.code.groups) (sym run);
  each = λ g there. (let old : g < length s.row.stations = omega arith in like_queued s.run new.run (station s g) (station new g) run (like g old) (h.each g old));
}

-- the same station, but for its floors
pub same_like : (x y : Station) → y ≡ x → IsLike x y
same_like x y e = record { of_run = ap (λ (z : Station). z.run) e; sources = ap (λ (z : Station). z.queue.sources) e; limit = ap (λ (z : Station). z.queue.arrivals) e; size = ap (λ (z : Station). length z.queue.floors) e }

-- a message that is no phantom leaves the floors
heard_quiet : (s new : Pipe) (p : ℕ) (end : LaneEnd) (m : Message) → HasQueues s → IsReceiver s p end (Some m) → announced_by m ≡ [] → Hears p s new → ((g : ℕ) → g < length s.row.stations → IsLike (station s g) (station new g)) → FloorsStay s new p → Heard s new p end
heard_quiet s new p end m queues h quiet hears like stay =
    let same : phantoms_in end.items ≡ phantoms_in h.taken = ap phantoms_in h.items ∙ quiet_more h.taken m quiet in
    let floors : HasFloors new p (length (phantoms_in end.items)) = λ g there.
    (stay g there ∙ h.floors g (let count = hears.count in omega arith)
    ∙ (λ i. min (p + length (sym same i) * (sym hears.same.run i).settings.pipelines) (arrivals (sym hears.same.run i)))) in
    record {
      lane = taken_all s new p end m h hears.same floors;
      queues = queues_kept s new hears.same.run hears.count like queues;
      hears = hears;
    }

-- where the stations are the same
heard_beside : (s new : Pipe) (p : ℕ) (end : LaneEnd) (m : Message) → HasQueues s → IsReceiver s p end (Some m) → announced_by m ≡ [] → IsSamePipe s new → new.outbox ≡ s.outbox → new.door.exit.entered ≡ s.door.exit.entered → new.row ≡ s.row → Heard s new p end
heard_beside s new p end m queues h quiet same outbox entered row =
    let stays : (q : ℕ) → FloorsStay s new q = λ q g there. ap (λ (r : Row). slice_index (station_at r g).queue.floors q) row in
    heard_quiet s new p end m queues h quiet
    record { same = same; outbox = outbox; entered = entered; count = ap (λ (r : Row). length r.stations) row; floors = λ q other. stays q }
    (λ g there. same_like (station s g) (station new g) (ap (λ (r : Row). station_at r g) row))
    (stays p)

heard_packet : (s new : Pipe) (p : ℕ) (end : LaneEnd) (m : Message) → HasQueues s → IsReceiver s p end (Some m) → announced_by m ≡ [] → (t g : ℕ) (packet : PacketHere) (line : Option ℕ) → IsTakenIn s new t g packet line → Heard s new p end
heard_packet s new p end m queues h quiet t g packet line taken =
    let e = taken.pipe in
    heard_beside s new p end m queues h quiet
    record { run = ap (λ (x : Pipe). x.run) e; pipe = ap (λ (x : Pipe). x.pipe) e; owners = ap (λ (x : Pipe). x.owners) e }
    (ap (λ (x : Pipe). x.outbox) e) (ap (λ (x : Pipe). x.door.exit.entered) e) (ap (λ (x : Pipe). x.row) e)

-- ---- another station at a group

pub record IsAlike (x y : Station) : Type 0 where
  pub like : IsLike x y
  pub floors : y.queue.floors ≡ x.queue.floors

pub same_alike : (x y : Station) → y ≡ x → IsAlike x y
same_alike x y e = record { like = same_like x y e; floors = ap (λ (z : Station). z.queue.floors) e }

pub with_alike : (r : Row) (g : ℕ) (x : Station) → IsAlike (station_at r g) x → (k : ℕ) → k < length r.stations → IsAlike (station_at r k) (station_at (with_station r g x) k)
with_alike r g x alike k there = elim (eqb_tells k g) [
  | inl e ↦ subst (λ (y : Station). IsAlike (station_at r k) y) (sym (ap (λ n. station_at (with_station r n x) k) (sym e.1) ∙ get_or-set_same r.stations k x (first_station r.run r.pipe k) there))
      (subst (λ n. IsAlike (station_at r n) x) (sym e.1) alike)
  | inr e ↦ same_alike (station_at r k) (station_at (with_station r g x) k) (get_or-set_other r.stations g k x (first_station r.run r.pipe k) e.1)
]

heard_cell : (s new : Pipe) (p : ℕ) (end : LaneEnd) (m : Message) → HasQueues s → IsReceiver s p end (Some m) → announced_by m ≡ [] → (g : ℕ) (x : Station) → IsAlike (station s g) x → new ≡ record s { row = with_station s.row g x } → Heard s new p end
heard_cell s new p end m queues h quiet g x alike e =
    let row : new.row ≡ with_station s.row g x = ap (λ (y : Pipe). y.row) e in
    let count : length new.row.stations ≡ length s.row.stations = ap (λ (r : Row). length r.stations) row ∙ length-set s.row.stations g x in
    let each : (k : ℕ) → k < length s.row.stations → IsAlike (station s k) (station new k) = λ k there.
    subst (λ (r : Row). IsAlike (station s k) (station_at r k)) (sym row) (with_alike s.row g x alike k there) in
    let stays : (q : ℕ) → FloorsStay s new q = λ q k there. ap (λ floors. slice_index floors q) (each k (omega arith)).floors in
    heard_quiet s new p end m queues h quiet
    record {
      same = record { run = ap (λ (y : Pipe). y.run) e; pipe = ap (λ (y : Pipe). y.pipe) e; owners = ap (λ (y : Pipe). y.owners) e };
      outbox = ap (λ (y : Pipe). y.outbox) e;
      entered = ap (λ (y : Pipe). y.door.exit.entered) e;
      count = count;
      floors = λ q other. stays q;
    }
    (λ k there. (each k there).like)
    (stays p)

-- ---- a phantom

-- the station of a group that heard of an arrival
module _ (s new : Pipe) (p t : ℕ) (queues : HasQueues s) (heard : IsAnnounced s.row new.row p t) where
  announced_like : (g : ℕ) → g < length s.row.stations → IsLike (station s g) (station new g)
  announced_like g there =
      let at = (heard.each g there).station in
      record {
        of_run = ap (λ (x : Station). x.run) at;
        sources = ap (λ (x : Station). x.queue.sources) at;
        limit = ap (λ (x : Station). x.queue.arrivals) at;
        size = ap (λ (x : Station). length x.queue.floors) at ∙ length-set (station s g).queue.floors p (min (t + (station s g).queue.sources) (station s g).queue.arrivals);
      }

  announced_other : (q : ℕ) → q ≢ p → FloorsStay s new q
  announced_other q other g there =
      let old : g < length s.row.stations = (let count = heard.count in omega arith) in
      ap (λ (x : Station). slice_index x.queue.floors q) (heard.each g old).station
      ∙ get_or-set_other (station s g).queue.floors p q (min (t + (station s g).queue.sources) (station s g).queue.arrivals) 0 other

  announced_this : p < s.run.settings.pipelines → (g : ℕ) → g < length s.row.stations → slice_index (station new g).queue.floors p ≡ min (t + s.run.settings.pipelines) (arrivals s.run)
  announced_this within g there =
      let queue = queues.each g there in
      let size = queue.size in
      ap (λ (x : Station). slice_index x.queue.floors p) (heard.each g there).station
      ∙ get_or-set_same (station s g).queue.floors p (min (t + (station s g).queue.sources) (station s g).queue.arrivals) 0 (omega arith)
      ∙ (λ i. min (t + queue.sources i) (queue.limit i))

heard_phantom : (s new : Pipe) (p : ℕ) (end : LaneEnd) (t : ℕ) (units : List ℕ) → HasQueues s → p < s.run.settings.pipelines → IsReceiver s p end (Some (Phantom t units)) → IsAnnounced s.row new.row p t → IsOnlyRow s new → Heard s new p end
heard_phantom s new p end t units queues within h heard e =
    let same : IsSamePipe s new = record { run = ap (λ (x : Pipe). x.run) e; pipe = ap (λ (x : Pipe). x.pipe) e; owners = ap (λ (x : Pipe). x.owners) e } in
    let next : t ≡ p + length (phantoms_in h.taken) * s.run.settings.pipelines = fits_turn s.run p s.pipe end h.taken (Phantom t units) h.lane h.next in
    let long : length (phantoms_in end.items) ≡ length (phantoms_in h.taken) + 1 = ap (λ ms. length (phantoms_in ms)) h.items ∙ phantom_count h.taken (Phantom t units) in
    let step : t + s.run.settings.pipelines ≡ p + length (phantoms_in end.items) * s.run.settings.pipelines =
    floor_step t p s.run.settings.pipelines (length (phantoms_in h.taken)) (length (phantoms_in end.items)) next long in
    let floors : HasFloors new p (length (phantoms_in end.items)) = λ g there.
    (announced_this s new p t queues heard within g (let count = heard.count in omega arith)
    ∙ ap (λ n. min n (arrivals s.run)) step
    ∙ ap (λ (r : Run). min (p + length (phantoms_in end.items) * r.settings.pipelines) (arrivals r)) (sym same.run)) in
    record {
      lane = taken_all s new p end (Phantom t units) h same floors;
      queues = queues_kept s new same.run heard.count (announced_like s new p t queues heard) queues;
      hears = record {
        same = same;
        outbox = ap (λ (x : Pipe). x.outbox) e;
        entered = ap (λ (x : Pipe). x.door.exit.entered) e;
        count = heard.count;
        floors = announced_other s new p t queues heard;
      };
    }

-- ---- any message

pub heard : (s new : Pipe) (p : ℕ) (end : LaneEnd) (m : Message) → HasQueues s → p < s.run.settings.pipelines → IsReceiver s p end (Some m) → IsAccepted s new p m → Heard s new p end
heard s new p end (Phantom t units) queues within h done = heard_phantom s new p end t units queues within h done.0 done.1
heard s new p end (Packet t g env by touched) queues within h done = heard_packet s new p end (Packet t g env by touched) queues h refl t g done.packet done.line done.taken
heard s new p end (Cell g u round unit) queues within h done =
    heard_cell s new p end (Cell g u round unit) queues h refl g (after_taking (station s g) unit) (record { like = record { of_run = refl; sources = refl; limit = refl; size = refl }; floors = refl }) done
heard s new p end (Home t env by touched) queues within h done = heard_packet s new p end (Home t env by touched) queues h refl t (length s.run.code.groups) done.packet done.line done.taken

pub got : (o : Option Message) (old new : LaneEnd) (held : Option Message) → held ≡ None → IfSome o (λ m. new ≡ after old m) → IfSome o (λ m. Fits old.key old.items m) → IfSome o (λ m. IsFromLane old new m held)
got None old new held e more fits = tt
got (Some m) old new held e more fits = subst (λ (x : Option Message). IsFromLane old new m x) (sym e) (was_received more fits)

pub same_on : (s x y : Pipe) → IsSamePipe s x → IsSamePipe x y → IsSamePipe s y
same_on s x y a b = record { run = b.run ∙ a.run; pipe = b.pipe ∙ a.pipe; owners = b.owners ∙ a.owners }
