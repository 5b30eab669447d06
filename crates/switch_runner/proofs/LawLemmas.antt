-- The laws of a call, from what a request does, or from words that aren't taken.
use Rattle.std.proofs.Common.{◌≡◌, ◌≢◌, inl, inr, ℕ, List, Some, refl, arith}
use Rattle.std.specs.Prelude.{String}
use Rattle.capture_io.specs.declared.fault.CaptureFault.{CaptureFault}
use Rattle.domino_compile.specs.declared.fault.ProgramFault.{ProgramFault}
use Rattle.switch_runner.specs.declared.status.Status.{Status}
use Rattle.switch_runner.specs.declared.status.Status.TheVariants as status
use Rattle.switch_runner.specs.Outside.{StoreView, SinkView, ChangesOnly}
use Rattle.command_line.specs.declared.request.Mode.{Mode}
use Rattle.command_line.specs.declared.request.Mode.TheVariants.{One, Plan, Run, Serial}
use Rattle.command_line.specs.declared.request.WordsFault.{WordsFault}
use Rattle.command_line.specs.CommandLine.{Request, NotTaken}
use Rattle.switch_net.specs.Marks.{Runs}
use Rattle.switch_runner.specs.Networks.{RanFor, RanIn}
use Rattle.switch_runner.specs.Causes.{answer_of_words, Cause, IsOrNoMemory, IsReadThrough, IsProgram, IsNoProgram}
use Rattle.switch_runner.specs.Loads.{Load, load_of, IsSomeLoad, IsNoLoad, IsFile}
use Rattle.switch_runner.specs.Laws.{Laws, Outputs, StopsAt, texts, request}
use Rattle.switch_runner.specs.Top.{Serves}
use Rattle.switch_runner.proofs.CauseLemmas.{program_always, capture_always, complete}
use Rattle.switch_runner.proofs.CommandLemmas.{taken_help, taken_words, not_taken_help, not_taken_words, not_taken_asked, if_these}

pub laws_of_request : {Z : Type 0} (words : List (String Z)) (r : Request) (old new : StoreView) (before after : SinkView) (first last : Runs) (s : Status) → request words ≡ Some r → Serves r old new before after first last s
    → Laws words old new before after first last s
laws_of_request words r old new before after first last s e h = record {
  help = taken_help (texts words) s r old new e h.cause;
  refused = taken_words (texts words) s r old new e h.cause;
  because = if_these (request words) r _ e h.cause;
  reports = if_these (request words) r _ e h.outputs;
  program = if_these (request words) r _ e (program_always s r old new h.cause);
  capture = if_these (request words) r _ e (capture_always s r old new h.cause);
  complete = if_these (request words) r _ e (complete s r old new h.cause);
  kept = h.kept;
  names = if_these (request words) r _ e h.others;
  stops = if_these (request words) r _ e h.stops;
  networks = if_these (request words) r _ e h.ran;
}

-- no network was run where memory ran out for the words
none_ran : (mode : Mode) (P : Runs → Runs → Type 0) (runs : Runs) → RanIn mode P status.NoMemory runs runs
none_ran One P runs = refl
none_ran Plan P runs = refl
none_ran Serial P runs = inl refl
none_ran Run P runs = inl refl

-- nothing has changed, and there was no memory for the words at most
pub laws_of_words : {Z : Type 0} (words : List (String Z)) (store : StoreView) (out : SinkView) (runs : Runs) (f : WordsFault) → NotTaken (texts words) f → Laws words store store out out runs runs (answer_of_words f)
laws_of_words words store out runs fault h =
    let same : (name : List ℕ) → ChangesOnly name store store = λ name. record { told = λ other. refl; later = omega arith; others = λ other ne. refl } in
    record {
      help = not_taken_help (texts words) fault h;
      refused = not_taken_words (texts words) fault h;
      because = not_taken_asked (texts words) fault (λ a r. Cause a r store store) (λ r. tt) h;
      reports = not_taken_asked (texts words) fault (λ a r. Outputs a r store out out) (λ r. record { later = omega arith; text = refl }) h;
      program =
          not_taken_asked (texts words) fault
          (λ a r. (text : List ℕ) (f : ProgramFault) → store.told r.program ≡ Some text → IsNoProgram f text → IsReadThrough r store store → IsOrNoMemory a (status.Program f))
          (λ r text f e none through. inr refl) h;
      capture =
          not_taken_asked (texts words) fault
          (λ a r. (text : List ℕ) (load : Load) (f : CaptureFault) → store.told r.program ≡ Some text → load_of r.capture store ≡ Some load → IsProgram text → IsNoLoad f load → IsReadThrough r store store
          → IsOrNoMemory a (status.Capture f))
          (λ r text load f e g p none through. inr refl) h;
      complete =
          not_taken_asked (texts words) fault
          (λ a r. (text : List ℕ) (load : Load) → store.told r.program ≡ Some text → load_of r.capture store ≡ Some load → IsProgram text → IsSomeLoad load → IsReadThrough r store store → a ≢ status.WriteFault
          → IsOrNoMemory a status.Done)
          (λ r text load e f p c through wrote. inr refl) h;
      kept = record { told = λ name. refl; later = λ name. omega arith };
      names = not_taken_asked (texts words) fault (λ a r. (name : List ℕ) → name ≢ r.program → ¬ IsFile r.capture name → store.faults name ≡ store.faults name) (λ r name p c. refl) h;
      stops = not_taken_asked (texts words) fault (λ a r. StopsAt r store store a) (λ r. record { answered = λ about. same r.program; told = λ text e isnt. same r.program }) h;
      networks = not_taken_asked (texts words) fault (λ a r. RanIn r.mode (RanFor r store) a runs runs) (λ r. none_ran r.mode (RanFor r store) runs) h;
    }
