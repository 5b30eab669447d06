-- The steps of the top call, one by one.
use Rattle.std.specs.Prelude.{◌≡◌, ◌≢◌, false, ℕ, ℤ, List, [], ◌∷◌, length, IfSome}
use Rattle.capture_io.specs.declared.fault.CaptureFault.TheVariants as capture
use Rattle.switch_runner.specs.declared.status.Status.{Status}
use Rattle.switch_runner.specs.declared.status.Status.TheVariants as status
use Rattle.domino_tree.specs.declared.program.Program.{Program}
use Rattle.command_line.specs.declared.request.Request.{Request as Words}
use Rattle.command_line.specs.CommandLine.{Origin, Request, origin_of, request_with}
use Rattle.switch_net.specs.Marks.{Runs}
use Rattle.switch_runner.specs.Networks.{RanFor, RanIn}
use Rattle.switch_runner.specs.Loads.{load_of, IsNoLoad, IsFile, RoseIn}
use Rattle.switch_runner.specs.Causes.{Cause, RoseFor, lacks_memory, IsNoProgram, IsTextOf}
use Rattle.switch_runner.specs.Laws.{Outputs, StopsAt}
use Rattle.switch_runner.specs.Outside.{StoreView, SinkView, IsKept, Grew, Stopped}

-- what taken words ask for
abbrev pub words_of : Words → Request
words_of r = request_with r.mode r.program.now (origin_of r.capture) r.settings r.seed r.trace r.brief

-- each packet has so many words
abbrev pub AreWide : ℕ → List (List ℤ) → Type 0
AreWide width [] = Unit {0}
AreWide width (p ∷ ps) = (length p ≡ width) × AreWide width ps

-- why no program was read of this name
abbrev pub NoSource : List ℕ → StoreView → StoreView → Status → Type 0
NoSource name old new (status.Program f) = (lacks_memory f ≡ false) × IfSome (old.told name) (IsNoProgram f)
NoSource name old new status.ReadFault = RoseFor name old new
NoSource name old new status.NoMemory = Unit {0}
NoSource name old new s = ⊥

-- why there are no headers
abbrev pub NoHeaders : Origin → StoreView → StoreView → Status → Type 0
NoHeaders origin old new (status.Capture f) = (f ≢ capture.NoMemory) × IfSome (load_of origin old) (IsNoLoad f)
NoHeaders origin old new status.ReadFault = RoseIn origin old new
NoHeaders origin old new status.NoMemory = Unit {0}
NoHeaders origin old new s = ⊥

-- how a request ends that prints this text
abbrev pub Ends : List ℕ → SinkView → SinkView → Status → Type 0
Ends text old new status.Done = Grew text old new
Ends text old new status.WriteFault = Stopped text old new
Ends text old new status.NoMemory = new ≡ old
Ends text old new s = ⊥

-- how a request ends that prints a text of which this holds
abbrev pub TextEnds : (List ℕ → Type 0) → SinkView → SinkView → Status → Type 0
TextEnds P old new status.Done = (text : List ℕ) × P text × Grew text old new
TextEnds P old new status.WriteFault = (text : List ℕ) × P text × Stopped text old new
TextEnds P old new status.NoMemory = new ≡ old
TextEnds P old new s = ⊥

-- how a request ends that prints of this program and these headers
abbrev pub RunEnds : Request → Program → List (List ℤ) → SinkView → SinkView → Status → Type 0
RunEnds r p headers = TextEnds (IsTextOf r.mode r p headers)

-- what a request does to the store, to the output and to the fabric's runs, by its answer
pub record Serves (r : Request) (old new : StoreView) (before after : SinkView) (first last : Runs) (answer : Status) : Type 0 where
  pub cause : Cause answer r old new
  pub outputs : Outputs answer r old before after
  pub kept : IsKept old new
  pub others : (name : List ℕ) → name ≢ r.program → ¬ IsFile r.capture name → new.faults name ≡ old.faults name
  pub stops : StopsAt r old new answer
  pub ran : RanIn r.mode (RanFor r old) answer first last
