-- All lanes of a worker.
use Rattle.std.proofs.Common.{◌≡◌, ℕ, zero, suc, ◌+◌, ◌*◌, ◌<◌, ◌≤◌, min, List, [], ◌++◌, length, length-append, slice_index, slice_index_or, Option, None, refl, sym, ap, subst, ◌∙◌, arith, add-mul}
use Rattle.std.specs.List.{All}
use Rattle.std.proofs.Math.Nat.{div-eq_of_lt, div-eq_of_lt-le, one-mul, suc-mul, zero-mul, mul-le-mul_right}
use Rattle.std.proofs.lemmas.List.{get_or-replicate}
use Rattle.place_queue.proofs.Floors.{first_floors_length, first_floor}
use Rattle.pipe_stations.proofs.StartLemmas.{first_long, first_at}
use Rattle.std.proofs.lemmas.List.Elements.{All-nil, All-head, All-tail}
use Rattle.egress_order.specs.OwnPackets.{own_count}
use Rattle.run_laws.specs.Run.{Run, arrivals}
use Rattle.group_station.specs.Station.{Station}
use Rattle.group_station.specs.Steps.{first_station}
use Rattle.pipe_stations.specs.Row.{group_count}
use Rattle.pipe_stations.specs.RowSteps.{IsStationFinished}
use Rattle.pipe_messages.specs.declared.message.Message.{Message}
use Rattle.pipe_messages.specs.Messages.{phantoms_in, own_arrivals}
use Rattle.pipe_worker.specs.Pipe.{Pipe, station, first_pipe}
use Rattle.switch_worker.specs.Worker.{Worker, LaneEnd}
use Rattle.switch_worker.specs.Finished.{IsHeard}
use Rattle.pipe_driver.specs.Driver.{Driver, listed, IsDriver, IsSender, IsReceiver, HasQueues, HasFloors, IsQueued, IsNewLane, IsNewWorker}
use Rattle.pipe_driver.proofs.MessageLemmas.{phantoms_in-append}

-- ---- one lane after another

-- ---- the parts of a turn

-- ---- a driver by its lanes

-- ---- the end

-- the last of the first own arrivals is one of the run
last_early : (run : Run) (p from n : ℕ) → All (λ t. t < arrivals run) (own_arrivals run p from (suc n)) → p + (from + n) * run.settings.pipelines < arrivals run
last_early run p from zero all =
    subst (λ k. p + k * run.settings.pipelines < arrivals run) (let e : from ≡ from + 0 = omega arith in e) (All-head (λ t. t < arrivals run) (p + from * run.settings.pipelines) [] all)
last_early run p from (suc n) all =
    subst (λ k. p + k * run.settings.pipelines < arrivals run) (let e : from + 1 + n ≡ from + suc n = omega arith in e)
    (last_early run p (from + 1) n (All-tail (λ t. t < arrivals run) (p + from * run.settings.pipelines) (own_arrivals run p (from + 1) (suc n)) all))

-- so many own arrivals, where all of them are of the run and no more are
count_is : (p k all n : ℕ) → p < k → all ≤ p + n * k → ((m : ℕ) → n ≡ suc m → p + m * k < all) → own_count p k all ≡ n
count_is p k all zero within past early = div-eq_of_lt (omega arith)
count_is p k all (suc m) within past early =
    let last = early m refl in
    let step : suc m * k ≡ m * k + k = suc-mul m k in
    div-eq_of_lt-le k (omega arith) (let next : (suc m + 1) * k ≡ suc m * k + k = add-mul (suc m) 1 k ∙ ap (λ x. suc m * k + x) (one-mul k) in omega arith)

-- no more phantoms were taken in than were received
fewer : (s : Pipe) (p : ℕ) (end : LaneEnd) (held : Option Message) (h : IsReceiver s p end held) → length (phantoms_in h.taken) ≤ length (phantoms_in end.items)
fewer s p end held h =
    let all = ap (λ ms. length (phantoms_in ms)) h.items in
    let parts = ap length (phantoms_in-append h.taken (listed held)) ∙ length-append (phantoms_in h.taken) (phantoms_in (listed held)) in
    omega arith

-- where a station is finished all phantoms were received
all_received : (s : Pipe) (p : ℕ) (end : LaneEnd) (held : Option Message) → p < s.run.settings.pipelines → HasQueues s → 0 < length s.run.code.groups → All IsStationFinished s.row.stations → IsReceiver s p end held
    → length (phantoms_in end.items) ≡ own_count p s.run.settings.pipelines (arrivals s.run)
all_received s p end held within queues some finished h =
    let count = queues.count in
    let there : 0 < length s.row.stations = omega arith in
    let queue = queues.each 0 there in
    let size = queue.size in
    let done : IsStationFinished (station s 0) = finished 0 (first_station s.row.run s.row.pipe 0) there in
    let floor : slice_index (station s 0).queue.floors p ≡ arrivals s.run = done.floors p (omega arith) ∙ ap arrivals queue.of_run in
    let reached = h.floors 0 there in
    let k : ℕ = s.run.settings.pipelines in
    let taken : length (phantoms_in h.taken) * k ≤ length (phantoms_in end.items) * k = mul-le-mul_right k (fewer s p end held h) in
    sym (count_is p k (arrivals s.run) (length (phantoms_in end.items)) within
    (omega arith)
    (λ m is.
    (let last = last_early s.run p 0 m (subst (All (λ t. t < arrivals s.run)) (h.order ∙ ap (own_arrivals s.run p 0) is) h.early) in
    let same : 0 + m ≡ m = omega arith in
    subst (λ n. p + n * s.run.settings.pipelines < arrivals s.run) same last)))

pub heard_all : (d : Driver) → IsDriver d → All IsStationFinished d.worker.pipe.row.stations → (p : ℕ) (end : LaneEnd) → p < d.worker.pipe.run.settings.pipelines → IsHeard d.worker.pipe.run p d.worker.pipe.pipe (slice_index_or d.worker.from p end)
heard_all d h finished p end within =
    let s : Pipe = d.worker.pipe in
    let lane : IsReceiver s p (slice_index_or d.worker.from p end) (slice_index_or d.held p None) = h.receives p end within in
    record {
      lane = lane.lane;
      all = λ some. lane.order ∙ ap (own_arrivals s.run p 0) (all_received s p (slice_index_or d.worker.from p end) (slice_index_or d.held p None) within h.queues some finished lane);
    }

-- ---- the start

first_queued : (run : Run) (pipe : ℕ) → HasQueues (first_pipe run pipe)
first_queued run pipe = record {
  count = first_long run pipe (group_count run);
  each = λ g lt.
      (let there : g < group_count run = (let long = first_long run pipe (group_count run) in omega arith) in
      let at : station (first_pipe run pipe) g ≡ first_station run pipe g = first_at run pipe (group_count run) g (first_station run pipe g) there in
      subst (λ (x : Station). IsQueued run x) (sym at) record { of_run = refl; sources = refl; limit = refl; size = first_floors_length run.settings.pipelines (arrivals run) });
}

first_floored : (run : Run) (pipe p : ℕ) → p < run.settings.pipelines → HasFloors (first_pipe run pipe) p 0
first_floored run pipe p within g lt =
    let there : g < group_count run = (let long = first_long run pipe (group_count run) in omega arith) in
    let at : station (first_pipe run pipe) g ≡ first_station run pipe g = first_at run pipe (group_count run) g (first_station run pipe g) there in
    ap (λ (x : Station). slice_index x.queue.floors p) at ∙ first_floor run.settings.pipelines (arrivals run) p within
    ∙ ap (λ k. min k (arrivals run)) (let none : 0 * run.settings.pipelines ≡ 0 = zero-mul run.settings.pipelines in let e : p ≡ p + 0 * run.settings.pipelines = omega arith in e)

first_sends : (run : Run) (pipe q : ℕ) (end : LaneEnd) → q < run.settings.pipelines → IsNewLane run pipe q end → IsSender (first_pipe run pipe) q end None
first_sends run pipe q end within new = record {
  lane = new.lane;
  next = tt;
  told = (λ i. length (phantoms_in (new.none i ++ [])) + length (phantoms_in (get_or-replicate {A = List Message} run.settings.pipelines q [] [] within i)));
}

first_receives : (run : Run) (pipe p : ℕ) (end : LaneEnd) → p < run.settings.pipelines → IsNewLane run p pipe end → IsReceiver (first_pipe run pipe) p end None
first_receives run pipe p end within new = record {
  lane = new.lane;
  taken = [];
  items = new.none;
  next = tt;
  order = subst (λ (ms : List Message). phantoms_in ms ≡ own_arrivals run p 0 (length (phantoms_in ms))) (sym new.none) refl;
  early = subst (λ (ms : List Message). All (λ t. t < arrivals run) (phantoms_in ms)) (sym new.none) (All-nil (λ t. t < arrivals run));
  floors = first_floored run pipe p within;
}

-- a driver has no message in hand at first
abbrev pub NoneOf : ℕ → List (Option Message) → Type 0
NoneOf n hands = (k : ℕ) → k < n → slice_index_or hands k None ≡ None

starts : (w : Worker) (unsent held : List (Option Message)) (n : ℕ) → IsNewWorker w.pipe.run w.pipe.pipe w → n ≡ length w.to → length unsent ≡ n → length held ≡ n → NoneOf n unsent → NoneOf n held
    → IsDriver record { worker = w; unsent = unsent; held = held }
starts w unsent held n h count longs longh none noneh =
    let pipes = h.to_count in
    let at : first_pipe w.pipe.run w.pipe.pipe ≡ w.pipe = sym h.pipe in
    record {
      to = h.to_count;
      from = h.from_count;
      unsent = omega arith;
      held = omega arith;
      queues = subst HasQueues at (first_queued w.pipe.run w.pipe.pipe);
      sends = λ q end lt.
          subst (λ (x : Pipe × Option Message). IsSender x.0 q (slice_index_or w.to q end) x.1) (λ i. (at i, sym (none q (omega arith)) i))
          (first_sends w.pipe.run w.pipe.pipe q (slice_index_or w.to q end) lt (h.to q end lt));
      receives = λ p end lt.
          subst (λ (x : Pipe × Option Message). IsReceiver x.0 p (slice_index_or w.from p end) x.1) (λ i. (at i, sym (noneh p (omega arith)) i))
          (first_receives w.pipe.run w.pipe.pipe p (slice_index_or w.from p end) lt (h.from p end lt));
    }

pub new_driver : (w now : Worker) (unsent held : List (Option Message)) (n : ℕ) → w ≡ now → IsNewWorker now.pipe.run now.pipe.pipe now → n ≡ length w.to → length unsent ≡ n → length held ≡ n → NoneOf n unsent → NoneOf n held
    → IsDriver record { worker = w; unsent = unsent; held = held }
new_driver w now unsent held n e h = starts w unsent held n (subst (λ (x : Worker). IsNewWorker x.pipe.run x.pipe.pipe x) (sym e) h)
