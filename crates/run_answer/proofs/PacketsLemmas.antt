-- The packets of finished workers.
use Rattle.std.proofs.Common.{◌≡◌, ℕ, ◌+◌, ◌*◌, ◌/◌, ◌%◌, ◌<◌, ◌==◌, Bool, true, false, if◌then◌else◌, List, length, ℤ, pos, slice_index_or, refl, sym, ap, subst, ◌∙◌, arith, mod-lt}
use Rattle.std.proofs.lemmas.Bool.{eqb-true, eqb-false}
use Rattle.mp5_words.specs.Cells.{word_at}
use Rattle.code_forms.specs.StagedMeaning.{last_words}
use Rattle.egress_order.specs.OwnPackets.{OwnPackets, IsExit, IsMerged, left_count, is_home, word_of}
use Rattle.egress_order.proofs.Leading.{leading_stop}
use Rattle.egress_order.proofs.Exits.{own_of}
use Rattle.run_laws.specs.Run.{Run, arrivals, home_of, values_of}
use Rattle.pipe_worker.specs.Pipe.{Pipe}
use Rattle.pipe_worker.specs.Laws.{IsPipe, IsDoorOf, CameHome}
use Rattle.switch_worker.specs.Finished.{IsFinished}
use Rattle.run_answer.specs.Results.{ArePackets}

-- where all own arrivals have left, each of them is home
all_home : (e : OwnPackets) (t : ℕ) → IsExit e → left_count e ≡ length e.home → t < e.arrivals → t % e.pipelines ≡ e.pipe → is_home e (t / e.pipelines) ≡ true
all_home e t laws left early own = by (is_home e (t / e.pipelines)) refl
  where
    in' : t / e.pipelines < length e.home
    in' = laws.all (t / e.pipelines) (subst (λ n. n < e.arrivals) (own_of t e.pipe e.pipelines own) early)

    by : (b : Bool) → is_home e (t / e.pipelines) ≡ b → is_home e (t / e.pipelines) ≡ true
    by true is = is
    by false is =
        let stop = leading_stop e.home (t / e.pipelines) is in
        let less = in' in
        absurd (omega (arith, stop, less, left))

-- each arrival came home to its pipe, where that has finished
pub came_home_all : (run : Run) (s : Pipe) (t : ℕ) → IsFinished run (home_of run t) s → IsPipe s → IsExit s.door.exit → t < arrivals run → CameHome s t
came_home_all run s t done pipe counts early = pipe.arrivals.home t here own home
  where
    here : t < arrivals s.run
    here = subst (λ (r : Run). t < arrivals r) (sym done.of_run) early

    own : home_of s.run t ≡ s.pipe
    own = ap (λ (r : Run). home_of r t) done.of_run ∙ sym done.is_number

    door : IsDoorOf s s.door
    door = pipe.whole.door

    home : is_home s.door.exit (t / s.run.settings.pipelines) ≡ true
    home =
        subst (λ (n : ℕ). is_home s.door.exit (t / n) ≡ true) door.pipelines
        (all_home s.door.exit t counts done.left (subst (λ n. t < n) (sym door.arrivals) here) (ap (λ n. t % n) door.pipelines ∙ own ∙ sym door.pipe))

-- so its words are those that the code leaves
pub home_word : (run : Run) (s : Pipe) (t f : ℕ) → IsFinished run (home_of run t) s → IsPipe s → IsExit s.door.exit → t < arrivals run → f < run.code.fields
    → word_of s.door.exit t f ≡ word_at (last_words run.code (values_of run t)) f
home_word run s t f done pipe counts early less =
    subst (λ (r : Run). word_of s.door.exit t f ≡ word_at (last_words r.code (values_of r t)) f) done.of_run
    ((came_home_all run s t done pipe counts early).fields f (subst (λ (r : Run). f < r.code.fields) (sym done.of_run) less))

-- the packets of the first pipes are written
pub record AreWritten (run : Run) (pipes : ℕ) (packets : List ℤ) : Type 0 where
  pub size : length packets ≡ arrivals run * run.code.fields
  pub words : (t f : ℕ) → t < arrivals run → f < run.code.fields → home_of run t < pipes
      → slice_index_or packets (t * run.code.fields + f) (pos 0) ≡ word_at (last_words run.code (values_of run t)) f

-- the packets of one pipe more
pub written_step : (run : Run) (i : ℕ) (s : Pipe) (e : OwnPackets) (before after : List ℤ) → IsFinished run i s → IsPipe s → e ≡ s.door.exit → IsExit e → AreWritten run i before → IsMerged e before after
    → AreWritten run (i + 1) after
written_step run i s e before after done pipe is counts below merged = record {
  size = merged.size ∙ below.size;
  words = λ t f early less home. by t f early less home (home_of run t == i) refl;
}
  where
    door : IsDoorOf s s.door
    door = pipe.whole.door

    fields : e.fields ≡ run.code.fields
    fields = ap (λ (x : OwnPackets). x.fields) is ∙ door.fields ∙ ap (λ (r : Run). r.code.fields) done.of_run

    pipes : e.pipelines ≡ run.settings.pipelines
    pipes = ap (λ (x : OwnPackets). x.pipelines) is ∙ door.pipelines ∙ ap (λ (r : Run). r.settings.pipelines) done.of_run

    number : e.pipe ≡ i
    number = ap (λ (x : OwnPackets). x.pipe) is ∙ door.pipe ∙ done.is_number

    count : e.arrivals ≡ arrivals run
    count = ap (λ (x : OwnPackets). x.arrivals) is ∙ door.arrivals ∙ ap (λ (r : Run). arrivals r) done.of_run

    here : IsExit s.door.exit
    here = subst (λ (x : OwnPackets). IsExit x) is counts

    row : (t f : ℕ) → t < arrivals run → f < run.code.fields → slice_index_or after (t * run.code.fields + f) (pos 0) ≡ (if home_of run t == i then word_of e t f else slice_index_or before (t * run.code.fields + f) (pos 0))
    row t f early less =
        subst (λ (n : ℕ). slice_index_or after (t * n + f) (pos 0) ≡ (if home_of run t == i then word_of e t f else slice_index_or before (t * n + f) (pos 0))) fields
        (subst (λ (n : ℕ). slice_index_or after (t * e.fields + f) (pos 0) ≡ (if t % n == i then word_of e t f else slice_index_or before (t * e.fields + f) (pos 0))) pipes
        (subst (λ (n : ℕ). slice_index_or after (t * e.fields + f) (pos 0) ≡ (if t % e.pipelines == n then word_of e t f else slice_index_or before (t * e.fields + f) (pos 0))) number
        (merged.packets t f (subst (λ n. t < n) (sym count) early) (subst (λ n. f < n) (sym fields) less))))

    chosen : (t f : ℕ) (b : Bool) → (home_of run t == i) ≡ b → t < arrivals run → f < run.code.fields
        → slice_index_or after (t * run.code.fields + f) (pos 0) ≡ (if b then word_of e t f else slice_index_or before (t * run.code.fields + f) (pos 0))
    chosen t f b test early less =
        subst (λ (c : Bool). slice_index_or after (t * run.code.fields + f) (pos 0) ≡ (if c then word_of e t f else slice_index_or before (t * run.code.fields + f) (pos 0))) test (row t f early less)

    by : (t f : ℕ) → t < arrivals run → f < run.code.fields → home_of run t < i + 1 → (b : Bool) → (home_of run t == i) ≡ b
        → slice_index_or after (t * run.code.fields + f) (pos 0) ≡ word_at (last_words run.code (values_of run t)) f
    by t f early less home true test =
        let same : home_of run t ≡ i = eqb-true (home_of run t) i test in
        chosen t f true test early less
        ∙ ap (λ (x : OwnPackets). word_of x t f) is
        ∙ home_word run s t f (subst (λ (n : ℕ). IsFinished run n s) (sym same) done) pipe here early less
    by t f early less home false test =
        let other : home_of run t ≡ i → ⊥ = eqb-false (home_of run t) i test in
        chosen t f false test early less ∙ below.words t f early less (omega arith)

-- no pipe's packets are written
pub written_none : (run : Run) (packets : List ℤ) → length packets ≡ arrivals run * run.code.fields → AreWritten run 0 packets
written_none run packets size = record { size = size; words = λ t f early less none. absurd (omega arith) }

-- the packets of all pipes
pub written_all : (run : Run) (packets : List ℤ) (pipes : ℕ) → pipes ≡ run.settings.pipelines → AreWritten run pipes packets → ArePackets run packets
written_all run packets pipes all is = record {
  size = is.size;
  words = λ t f early less.
      let home : home_of run t < run.settings.pipelines = mod-lt t (run.settings.some_pipeline) in
      is.words t f early less (omega arith);
}
