-- The workers of drivers that have stopped, one after another.
use Rattle.std.proofs.Common.{◌≡◌, ℕ, suc, ◌+◌, ◌<◌, List, [], ◌∷◌, ◌++◌, length, slice_index_or, remove, sym, ap, subst, ◌∙◌, arith, inl, inr}
use Rattle.std.proofs.lemmas.Bool.Decides.{eqb_tells}
use Rattle.std.proofs.lemmas.List.{length-append, get_or_default}
use Rattle.std.proofs.Math.ListN.{get_or-append}
use Rattle.std.proofs.Math.Seq.{get_or-append_seam}
use Rattle.run_laws.specs.Run.{Run}
use Rattle.switch_worker.specs.Worker.{Worker, LaneEnd}
use Rattle.switch_worker.specs.Finished.{IsFinished, IsHeard}
use Rattle.pipe_driver.specs.Driver.{Driver}
use Rattle.switch_net.specs.Driving.{HasStopped}

-- the worker of a pipe of the run that has ended
pub record IsEndedAt (run : Run) (number : ℕ) (w : Worker) : Type 0 where
  pub finished : IsFinished run number w.pipe
  pub ends : length w.from ≡ run.settings.pipelines
  pub heard : (p : ℕ) (end : LaneEnd) → p < run.settings.pipelines → IsHeard run p number (slice_index_or w.from p end)

-- a driver of the run whose pipe has stopped
pub record IsStoppedAt (run : Run) (number : ℕ) (d : Driver) : Type 0 where
  pub of_run : d.worker.pipe.run ≡ run
  pub is_number : d.worker.pipe.pipe ≡ number
  pub stopped : HasStopped d.worker.pipe

-- the workers of the first drivers are there, and the other drivers are left
pub record AreMoved (run : Run) (drivers : List Driver) (workers : List Worker) : Type 0 where
  pub count : length workers + length drivers ≡ run.settings.pipelines
  pub moved : (p : ℕ) (w : Worker) → p < length workers → IsEndedAt run p (slice_index_or workers p w)
  pub left : (p : ℕ) (d : Driver) → p < length drivers → IsStoppedAt run (length workers + p) (slice_index_or drivers p d)

-- what has ended of a worker of a stopped driver
pub is_ended : (run : Run) (number : ℕ) (d : Driver) (w : Worker) → IsStoppedAt run number d → w ≡ d.worker → length w.from ≡ w.pipe.run.settings.pipelines
    → ((p : ℕ) (end : LaneEnd) → p < w.pipe.run.settings.pipelines → IsHeard w.pipe.run p w.pipe.pipe (slice_index_or w.from p end)) → IsEndedAt run number w
is_ended run number d w is same ends heard = record {
  finished = record { of_run = run'; is_number = number'; left = stopped'.left; laws = stopped'.laws; row = stopped'.row; stations = stopped'.stations };
  ends = ends ∙ ap (λ (r : Run). r.settings.pipelines) run';
  heard = λ p end less.
      subst (λ (r : Run). IsHeard r p number (slice_index_or w.from p end)) run'
      (subst (λ n. IsHeard w.pipe.run p n (slice_index_or w.from p end)) number'
      (heard p end (subst (λ (r : Run). p < r.settings.pipelines) (sym run') less)));
}
  where
    run' : w.pipe.run ≡ run
    run' = ap (λ (v : Worker). v.pipe.run) same ∙ is.of_run

    number' : w.pipe.pipe ≡ number
    number' = ap (λ (v : Worker). v.pipe.pipe) same ∙ is.is_number

    stopped' : HasStopped w.pipe
    stopped' = subst (λ (v : Worker). HasStopped v.pipe) (sym same) is.stopped

-- the driver at the front is moved
pub moved_more : (run : Run) (drivers rest : List Driver) (workers : List Worker) (d : Driver) (w : Worker) → AreMoved run drivers workers → drivers ≡ d ∷ rest → IsEndedAt run (length workers) w
    → AreMoved run rest (workers ++ w ∷ [])
moved_more run drivers rest workers d w are first ended = record {
  count = let all = are.count in omega (arith, all, long, one);
  moved = moved';
  left = λ p e less.
      let at : slice_index_or drivers (suc p) e ≡ slice_index_or rest p e = ap (λ ds. slice_index_or ds (suc p) e) first in
      subst (λ n. IsStoppedAt run n (slice_index_or rest p e)) (omega (arith, long))
      (subst (λ f. IsStoppedAt run (length workers + suc p) f) at (are.left (suc p) e (omega (arith, less, one))));
}
  where
    long : length (workers ++ w ∷ []) ≡ length workers + 1
    long = length-append workers (w ∷ [])

    one : length drivers ≡ suc (length rest)
    one = ap (λ (ds : List Driver). length ds) first

    moved' : (p : ℕ) (v : Worker) → p < length (workers ++ w ∷ []) → IsEndedAt run p (slice_index_or (workers ++ w ∷ []) p v)
    moved' p v less = elim (eqb_tells p (length workers)) [
      | inl is ↦
          subst (λ (x : Worker). IsEndedAt run p x) (sym (ap (λ i. slice_index_or (workers ++ w ∷ []) i v) is.1 ∙ get_or-append_seam workers w [] v))
          (subst (λ n. IsEndedAt run n w) (sym is.1) ended)
      | inr not ↦
          let other : (p ≡ length workers) → ⊥ = not.1 in
          let before : p < length workers = omega (arith, less, long, other) in
          subst (λ (x : Worker). IsEndedAt run p x) (sym (get_or-append workers (w ∷ []) v p before)) (are.moved p v before)
    ]

-- the driver at the front is the next that is moved
pub left_front : (run : Run) (drivers rest : List Driver) (workers : List Worker) (d : Driver) → AreMoved run drivers workers → drivers ≡ d ∷ rest → IsStoppedAt run (length workers) d
left_front run drivers rest workers d are first =
    subst (λ n. IsStoppedAt run n d) (omega arith)
    (subst (λ (e : Driver). IsStoppedAt run (length workers + 0) e) (ap (λ ds. slice_index_or ds 0 d) first)
    (are.left 0 d (subst (λ (ds : List Driver). 0 < length ds) (sym first) (omega arith))))

-- what was taken from the front, and the rest
pub front_of : (drivers rest : List Driver) (d : Driver) → 0 < length drivers → d ≡ slice_index_or drivers 0 d → rest ≡ remove drivers 0 → drivers ≡ d ∷ rest
front_of [] rest d some first others = absurd (omega (arith, some))
front_of (e ∷ drivers) rest d some first others = ap (λ (x : Driver). x ∷ drivers) (sym first) ∙ ap (λ (xs : List Driver). d ∷ xs) (sym others)

-- one pipe more has stopped
pub stopped_more : (drivers : List Driver) (p : ℕ) (e : Driver) → p < length drivers → e ≡ slice_index_or drivers p e → HasStopped e.worker.pipe
    → ((k : ℕ) (d : Driver) → k < p → HasStopped (slice_index_or drivers k d).worker.pipe) → (k : ℕ) (d : Driver) → k < p + 1 → HasStopped (slice_index_or drivers k d).worker.pipe
stopped_more drivers p e within is stopped before k d less = elim (eqb_tells k p) [
  | inl same ↦
      let here : e ≡ slice_index_or drivers k d = is ∙ get_or_default drivers p e d within ∙ ap (λ i. slice_index_or drivers i d) (sym same.1) in
      subst (λ (x : Driver). HasStopped x.worker.pipe) here stopped
  | inr not ↦ let other : (k ≡ p) → ⊥ = not.1 in before k d (omega (arith, less, other))
]
