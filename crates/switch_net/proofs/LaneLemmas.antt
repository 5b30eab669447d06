-- The lanes of workers while they are laid.
use Rattle.std.proofs.Common.{◌≡◌, ◌≢◌, ℕ, ◌+◌, ◌<◌, List, [], ◌∷◌, ◌++◌, length, slice_index_or, slice_set, refl, sym, ap, subst, ◌∙◌, inl, inr, arith, get_or-set_same, get_or-set_other, length-set}
use Rattle.std.proofs.lemmas.List.{length_push, get_or_push, get_or_append_left}
use Rattle.std.proofs.lemmas.Bool.Decides.{eqb_tells}
use Rattle.run_laws.specs.Run.{Run}
use Rattle.pipe_worker.specs.Pipe.{Pipe}
use Rattle.switch_worker.specs.Worker.{Worker, LaneEnd}
use Rattle.pipe_driver.specs.Driver.{Driver, IsNewLane, IsNewWorker}
use Rattle.switch_net.specs.Building.{HasLanesFrom, AreLaid}
use Rattle.switch_net.specs.Driving.{IsPipeOf}

-- ---- lists

-- what is so of each of a list, and of one more behind it
pub each_more : {E : Type 0} (P : ℕ → E → Type 0) (xs ys : List E) (y : E) → ys ≡ xs ++ y ∷ [] → ((k : ℕ) (d : E) → k < length xs → P k (slice_index_or xs k d)) → P (length xs) y → (k : ℕ) (d : E) → k < length ys → P k (slice_index_or ys k d)
each_more {E} P xs ys y is each one k d lt =
    let long : length ys ≡ length xs + 1 = ap (λ (zs : List E). length zs) is ∙ length_push xs y in
    elim (eqb_tells k (length xs)) [
      | inl e ↦ (let at : slice_index_or ys k d ≡ y = ap (λ (zs : List E). slice_index_or zs k d) is ∙ get_or_push xs y d k (sym e.1) in
          subst (λ (x : E). P k x) (sym at) (subst (λ n. P n y) (sym e.1) one))
      | inr e ↦ (let less : k < length xs = (let other = e.1 in omega (arith, long, lt)) in
          let at : slice_index_or ys k d ≡ slice_index_or xs k d = ap (λ (zs : List E). slice_index_or zs k d) is ∙ get_or_append_left xs (y ∷ []) d k less in
          subst (λ (x : E). P k x) (sym at) (each k d less))
    ]

-- what is so of each of a list, and then of one that is written and of the others
each_set : {E : Type 0} (P Q : ℕ → E → Type 0) (xs : List E) (i : ℕ) (y : E) → i < length xs → ((k : ℕ) (d : E) → k < length xs → P k (slice_index_or xs k d)) → Q i y → ((k : ℕ) (x : E) → k ≢ i → P k x → Q k x) → (k : ℕ) (d : E) → k < length (slice_set xs i y) → Q k (slice_index_or (slice_set xs i y) k d)
each_set {E} P Q xs i y there each one others k d lt = elim (eqb_tells k i) [
  | inl e ↦ (let at : slice_index_or (slice_set xs i y) k d ≡ y = ap (λ n. slice_index_or (slice_set xs i y) n d) e.1 ∙ get_or-set_same xs i y d there in
      subst (λ (x : E). Q k x) (sym at) (subst (λ n. Q n y) (sym e.1) one))
  | inr e ↦ (let less : k < length xs = (let long = length-set xs i y in omega (arith, long, lt)) in
      subst (λ (x : E). Q k x) (sym (get_or-set_other xs i k y d e.1)) (others k (slice_index_or xs k d) e.1 (each k d less)))
]

-- ---- one worker

-- it gets its end of the lane to the next pipe
one_sender : (run : Run) (next senders receivers : ℕ) (w : Worker) (end : LaneEnd) → HasLanesFrom run next senders receivers next w → IsNewLane run next senders end → HasLanesFrom run next (senders + 1) receivers next (record w { to = w.to ++ end ∷ [] })
one_sender run next senders receivers w end h new = record {
  lanes = record {
    pipe = h.lanes.pipe;
    to_each = each_more (λ q (e : LaneEnd). IsNewLane run next q e) w.to (w.to ++ end ∷ []) end refl h.lanes.to_each
        (subst (λ q. IsNewLane run next q end) (sym (h.to_first refl)) new);
    from_each = h.lanes.from_each;
  };
  to_all = λ lt. absurd (omega (arith, lt));
  to_first = λ e. length_push w.to end ∙ ap (λ n. n + 1) (h.to_first refl);
  to_none = λ lt. absurd (omega (arith, lt));
  from_next = h.from_next;
  from_before = h.from_before;
}

-- another gets one
other_sender : (run : Run) (next senders receivers number : ℕ) (w : Worker) → number ≢ next → HasLanesFrom run next senders receivers number w → HasLanesFrom run next (senders + 1) receivers number w
other_sender run next senders receivers number w other h = record {
  lanes = h.lanes;
  to_all = h.to_all;
  to_first = λ e. absurd (other e);
  to_none = h.to_none;
  from_next = h.from_next;
  from_before = h.from_before;
}

-- it gets its end of the lane from the next pipe
one_receiver : (run : Run) (next senders receivers : ℕ) (w : Worker) (end : LaneEnd) → HasLanesFrom run next senders receivers receivers w → IsNewLane run next receivers end → HasLanesFrom run next senders (receivers + 1) receivers (record w { from = w.from ++ end ∷ [] })
one_receiver run next senders receivers w end h new =
    let before : length w.from ≡ next = h.from_before (omega arith) in
    record {
      lanes = record {
        pipe = h.lanes.pipe;
        to_each = h.lanes.to_each;
        from_each = each_more (λ p (e : LaneEnd). IsNewLane run p receivers e) w.from (w.from ++ end ∷ []) end refl h.lanes.from_each
            (subst (λ p. IsNewLane run p receivers end) (sym before) new);
      };
      to_all = h.to_all;
      to_first = h.to_first;
      to_none = h.to_none;
      from_next = λ lt. length_push w.from end ∙ ap (λ n. n + 1) before;
      from_before = λ le. absurd (omega (arith, le));
    }

-- another gets one
other_receiver : (run : Run) (next senders receivers number : ℕ) (w : Worker) → number ≢ receivers → HasLanesFrom run next senders receivers number w → HasLanesFrom run next senders (receivers + 1) number w
other_receiver run next senders receivers number w other h = record {
  lanes = h.lanes;
  to_all = h.to_all;
  to_first = h.to_first;
  to_none = h.to_none;
  from_next = λ lt. h.from_next (omega (arith, lt, other));
  from_before = λ le. h.from_before (omega (arith, le));
}

-- ---- all workers

-- the next pipe's worker gets a sender
pub sender_laid : (run : Run) (next senders receivers : ℕ) (ws : List Worker) (d new : Worker) (end : LaneEnd) → next < run.settings.pipelines → AreLaid run next senders receivers ws → new ≡ record (slice_index_or ws next d) { to = (slice_index_or ws next d).to ++ end ∷ [] } → IsNewLane run next senders end → AreLaid run next (senders + 1) receivers (slice_set ws next new)
sender_laid run next senders receivers ws d new end within laid is lane =
    let there : next < length ws = omega (arith, within, laid.count) in
    record {
      count = length-set ws next new ∙ laid.count;
      each = each_set (HasLanesFrom run next senders receivers) (HasLanesFrom run next (senders + 1) receivers) ws next new there laid.each
          (subst (HasLanesFrom run next (senders + 1) receivers next) (sym is) (one_sender run next senders receivers (slice_index_or ws next d) end (laid.each next d there) lane))
          (other_sender run next senders receivers);
    }

-- a worker gets a receiver
pub receiver_laid : (run : Run) (next senders receivers : ℕ) (ws : List Worker) (d new : Worker) (end : LaneEnd) → receivers < run.settings.pipelines → AreLaid run next senders receivers ws → new ≡ record (slice_index_or ws receivers d) { from = (slice_index_or ws receivers d).from ++ end ∷ [] } → IsNewLane run next receivers end → AreLaid run next senders (receivers + 1) (slice_set ws receivers new)
receiver_laid run next senders receivers ws d new end within laid is lane =
    let there : receivers < length ws = omega (arith, within, laid.count) in
    record {
      count = length-set ws receivers new ∙ laid.count;
      each = each_set (HasLanesFrom run next senders receivers) (HasLanesFrom run next senders (receivers + 1)) ws receivers new there laid.each
          (subst (HasLanesFrom run next senders (receivers + 1) receivers) (sym is) (one_receiver run next senders receivers (slice_index_or ws receivers d) end (laid.each receivers d there) lane))
          (other_receiver run next senders receivers);
    }

-- ---- all lanes are laid

-- each worker is a new one with all its lanes
pub is_new : (run : Run) (ws : List Worker) (i : ℕ) (w : Worker) → AreLaid run run.settings.pipelines 0 0 ws → i < length ws → w ≡ slice_index_or ws i w → IsNewWorker w.pipe.run w.pipe.pipe w
is_new run ws i w laid lt at =
    let h : HasLanesFrom run run.settings.pipelines 0 0 i w = subst (HasLanesFrom run run.settings.pipelines 0 0 i) (sym at) (laid.each i w lt) in
    let all : length w.to ≡ run.settings.pipelines = h.to_all (omega (arith, laid.count, lt)) in
    let before : length w.from ≡ run.settings.pipelines = h.from_before (omega arith) in
    let new : IsNewWorker run i w = record {
      pipe = h.lanes.pipe;
      to_count = all;
      from_count = before;
      to = λ q end less. h.lanes.to_each q end (omega (arith, all, less));
      from = λ p end less. h.lanes.from_each p end (omega (arith, before, less));
    } in
    subst (λ (s : Pipe). IsNewWorker s.run s.pipe w) (sym h.lanes.pipe) new

-- and the pipe of its driver knows no plan
pub is_pipe : (run : Run) (ws : List Worker) (i k : ℕ) (w : Worker) (d : Driver) → AreLaid run run.settings.pipelines 0 0 ws → i < length ws → w ≡ slice_index_or ws i w → k ≡ i → d.worker ≡ w → IsPipeOf run [] k d.worker.pipe
is_pipe run ws i k w d laid lt at same is =
    let h : HasLanesFrom run run.settings.pipelines 0 0 i w = subst (HasLanesFrom run run.settings.pipelines 0 0 i) (sym at) (laid.each i w lt) in
    let of : IsPipeOf run [] i w.pipe = subst (IsPipeOf run [] i) (sym h.lanes.pipe) record { of_run = refl; is_number = refl; known = refl } in
    subst (λ n. IsPipeOf run [] n d.worker.pipe) (sym same) (subst (λ (v : Worker). IsPipeOf run [] i v.pipe) (sym is) of)
