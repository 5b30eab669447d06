-- The laws of the top call: what each answer means, and what a call leaves as it was.
use Rattle.std.specs.Prelude.{◌≡◌, ◌≢◌, ◌≤◌, false, ℕ, List, map, Option, Some, IfSome, String, string_bytes}
use Rattle.capture_io.specs.declared.fault.CaptureFault.{CaptureFault}
use Rattle.domino_compile.specs.declared.fault.ProgramFault.{ProgramFault}
use Rattle.switch_runner.specs.declared.status.Status.{Status}
use Rattle.switch_runner.specs.declared.status.Status.TheVariants as status
use Rattle.switch_runner.specs.Outside.{StoreView, SinkView, Rose, TookFront, gained, ChangesOnly, IsKept}
use Rattle.command_line.specs.CommandLine.{Request, AsksForHelp, IsRefused, asked}
use Rattle.switch_net.specs.Marks.{Runs}
use Rattle.switch_runner.specs.Networks.{RanFor, RanIn, runs_network}
use Rattle.switch_runner.specs.Loads.{Load, load_of, IsSomeLoad, IsNoLoad, IsFile}
use Rattle.switch_runner.specs.Causes.{Cause, Gained, ComesWhere, IsOrNoMemory, IsReadThrough, IsProgram, IsNoProgram, IsAboutProgram, line}

-- the bytes of each word
abbrev pub texts : {Z : Type 0} → List (String Z) → List (List ℕ)
texts words = map string_bytes words

-- what the words ask for; nothing where they aren't taken
abbrev pub request : {Z : Type 0} → List (String Z) → Option Request
request words = asked (texts words)

-- an answer to taken words has its cause
abbrev pub Because : {Z : Type 0} → List (String Z) → StoreView → StoreView → Status → Type 0
Because words old new answer = IfSome (request words) (λ r. Cause answer r old new)

-- the output has gained what the answer to a request says, and its count didn't fall
pub record Outputs (answer : Status) (r : Request) (store : StoreView) (old new : SinkView) : Type 0 where
  pub later : old.faults ≤ new.faults
  pub text : Gained answer r store old new

-- the output has gained what the answer to taken words says
abbrev pub Reports : {Z : Type 0} → List (String Z) → StoreView → SinkView → SinkView → Status → Type 0
Reports words store old new answer = IfSome (request words) (λ r. Outputs answer r store old new)

-- where no read failed, a told text that isn't accepted is always answered by what it isn't accepted for
abbrev pub ProgramAlways : {Z : Type 0} → List (String Z) → StoreView → StoreView → Status → Type 0
ProgramAlways words old new answer = IfSome (request words) (λ r. (text : List ℕ) (f : ProgramFault)
    → old.told r.program ≡ Some text → IsNoProgram f text → IsReadThrough r old new → IsOrNoMemory answer (status.Program f))

-- where no read failed, a told capture that is refused, under a told program, is always answered by its first
-- refusal
abbrev pub CaptureAlways : {Z : Type 0} → List (String Z) → StoreView → StoreView → Status → Type 0
CaptureAlways words old new answer = IfSome (request words) (λ r. (text : List ℕ) (load : Load) (f : CaptureFault)
    → old.told r.program ≡ Some text → load_of r.capture old ≡ Some load → IsProgram text → IsNoLoad f load → IsReadThrough r old new → IsOrNoMemory answer (status.Capture f))

-- where no read failed, a told program over a told capture, or one that is made, is run to its end: no answer comes but
-- Done, or WriteFault where a write failed
abbrev pub IsComplete : {Z : Type 0} → List (String Z) → StoreView → StoreView → Status → Type 0
IsComplete words old new answer = IfSome (request words) (λ r. (text : List ℕ) (load : Load)
    → old.told r.program ≡ Some text → load_of r.capture old ≡ Some load → IsProgram text → IsSomeLoad load → IsReadThrough r old new
    → answer ≢ status.WriteFault → IsOrNoMemory answer status.Done)

-- no count of the store changed but those of the program and of the capture's file
abbrev pub ReadsAsked : {Z : Type 0} → List (String Z) → StoreView → StoreView → Type 0
ReadsAsked words old new = IfSome (request words) (λ r. (name : List ℕ) → name ≢ r.program → ¬ IsFile r.capture name → new.faults name ≡ old.faults name)

-- nothing but the program was read where the answer is about it, and where the told text is no program
pub record StopsAt (r : Request) (old new : StoreView) (answer : Status) : Type 0 where
  pub answered : IsAboutProgram answer → ChangesOnly r.program old new
  pub told : (text : List ℕ) → old.told r.program ≡ Some text → ¬ IsProgram text → ChangesOnly r.program old new

-- a program that isn't accepted, or isn't read, means that the capture isn't read
abbrev pub StopsAtProgram : {Z : Type 0} → List (String Z) → StoreView → StoreView → Status → Type 0
StopsAtProgram words old new answer = IfSome (request words) (λ r. StopsAt r old new answer)

-- the fabric ran what the answer to taken words says: in modes `serial` and `run` a network for each answer that prints
abbrev pub Networks : {Z : Type 0} → List (String Z) → StoreView → Runs → Runs → Status → Type 0
Networks words store old new answer = IfSome (request words) (λ r. RanIn r.mode (RanFor r store) answer old new)

-- the words ask for no network
abbrev pub AskForNone : {Z : Type 0} → List (String Z) → Type 0
AskForNone words = IfSome (request words) (λ r. runs_network r.mode ≡ false)

-- a sink has gained what tells of this answer: a prefix of it where a write failed, and nothing for Done
pub record Tells (answer : Status) (old new : SinkView) : Type 0 where
  pub whole : ¬ Rose old.faults new.faults → new.taken ≡ gained (line answer) old.taken
  pub front : TookFront old.taken new.taken (line answer)
  pub later : old.faults ≤ new.faults
  pub silent : answer ≡ status.Done → new.taken ≡ old.taken

-- the laws of a call with these words: the store, the output and the fabric's runs before and after, and the answer
pub record Laws {Z : Type 0} (words : List (String Z)) (old new : StoreView) (before after : SinkView) (first last : Runs) (answer : Status) : Type 0 where
  pub help : ComesWhere (AsksForHelp (texts words)) answer status.Help
  pub refused : ComesWhere (IsRefused (texts words)) answer status.Words
  pub because : Because words old new answer
  pub reports : Reports words old before after answer
  pub program : ProgramAlways words old new answer
  pub capture : CaptureAlways words old new answer
  pub complete : IsComplete words old new answer
  pub kept : IsKept old new
  pub names : ReadsAsked words old new
  pub stops : StopsAtProgram words old new answer
  pub networks : Networks words old first last answer
