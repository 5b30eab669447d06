-- The causes of each answer to a request, and what tells of it.
use Rattle.std.specs.Prelude.{◌≡◌, ◌≢◌, ◌⊎◌, ◌+◌, ℕ, ℤ, Bool, true, false, List, [], take, codes, IfSome}
use Rattle.capture_io.specs.declared.fault.CaptureFault.{CaptureFault}
use Rattle.capture_io.specs.declared.fault.CaptureFault.TheVariants as capture
use Rattle.domino_tree.specs.declared.program.Program.{Program}
use Rattle.domino_syntax.specs.declared.fault.TextFault.TheVariants as text_fault
use Rattle.domino_names.specs.declared.fault.CheckFault.TheVariants as check_fault
use Rattle.switch_runner.specs.declared.limits.TheConstants.{MAX_TEXT}
use Rattle.switch_runner.specs.declared.outside.StoreFault.{StoreFault}
use Rattle.switch_runner.specs.declared.outside.StoreFault.TheVariants as store
use Rattle.domino_compile.specs.declared.fault.ProgramFault.{ProgramFault}
use Rattle.domino_compile.specs.declared.fault.ProgramFault.TheVariants as program
use Rattle.domino_compile.specs.Accepted.{IsAccepted, IsUnaccepted}
use Rattle.switch_runner.specs.declared.status.Status.{Status}
use Rattle.switch_runner.specs.declared.status.Status.TheVariants as status
use Rattle.command_line.specs.declared.request.Mode.{Mode}
use Rattle.command_line.specs.declared.request.Mode.TheVariants.{One, Plan, Run, Serial}
use Rattle.command_line.specs.declared.request.WordsFault.{WordsFault}
use Rattle.command_line.specs.declared.request.WordsFault.TheVariants as words
use Rattle.command_line.specs.CommandLine.{Request, numbers_with}
use Rattle.switch_runner.specs.Outside.{StoreView, SinkView, Rose, TookFront, gained}
use Rattle.switch_runner.specs.Loads.{Load, load_of, AreHeadersOf, IsSomeLoad, IsNoLoad, RoseIn}
use Rattle.switch_runner.specs.HelpText.{help_text}
use Rattle.report_text.specs.RefusalLine.{program_line, refusal_line}
use Rattle.code_forms.specs.Staged.{Staged}
use Rattle.domino_compile.specs.Compiled.{IsCompiled}
use Rattle.mp5_words.specs.declared.settings.Settings.{Settings}
use Rattle.shard_rounds.specs.declared.plan.Move.{Move}
use Rattle.run_laws.specs.Run.{run_of}
use Rattle.run_laws.specs.LawfulPlans.{AreAllPlans}
use Rattle.report_text.specs.AnswerLines.{wanted}
use Rattle.report_text.specs.SourceTrace.{trace_lines}
use Rattle.report_text.specs.Report.{report}
use Rattle.report_text.specs.PlanLines.{plan_text}

-- the told text is accepted as some program
abbrev pub IsProgram : List ℕ → Type 0
IsProgram text = (p : Program) × IsAccepted text p

-- memory ran out: such a fault is never told as one of the program
abbrev pub lacks_memory : ProgramFault → Bool
lacks_memory (program.Text text_fault.NoMemory) = true
lacks_memory (program.Text f) = false
lacks_memory (program.Check check_fault.NoMemory) = true
lacks_memory (program.Check f) = false
lacks_memory (program.TooLarge n) = false
lacks_memory program.NoMemory = true

-- why words aren't taken as an answer
abbrev pub answer_of_words : WordsFault → Status
answer_of_words words.Help = status.Help
answer_of_words words.Words = status.Words
answer_of_words words.NoMemory = status.NoMemory

-- a fault of a program as an answer
abbrev pub answer_of_program : ProgramFault → Status
answer_of_program program.NoMemory = status.NoMemory
answer_of_program f = status.Program f

-- a fault of a capture as an answer
abbrev pub answer_of_capture : CaptureFault → Status
answer_of_capture capture.NoMemory = status.NoMemory
answer_of_capture f = status.Capture f

-- the answer to a read that gave nothing
abbrev pub answer_of_store : StoreFault → Status
answer_of_store store.Failed = status.ReadFault
answer_of_store store.NoMemory = status.NoMemory

-- the told text isn't accepted for this; it is read to at most one byte past the limit of 65536, so that a
-- longer one is too long with 65537 bytes
abbrev pub IsNoProgram : ProgramFault → List ℕ → Type 0
IsNoProgram f text = IsUnaccepted f (take (MAX_TEXT + 1) text)

-- what is told can be run: a text that is accepted as a program, and bytes that are a capture, where it isn't made
pub record IsRunnable (r : Request) (store : StoreView) : Type 0 where
  pub program : IfSome (store.told r.program) IsProgram
  pub capture : IfSome (load_of r.capture store) IsSomeLoad

-- a text is the report of the sequential run, as the request wants it; with the trace it tells some lawful plans, and each
-- reserved access once under these same plans
pub record IsReportText (r : Request) (p : Program) (headers : List (List ℤ)) (text : List ℕ) : Type 0 where
  pub code : Staged
  pub settings : Settings
  pub plans : List (List Move)
  pub compiled : IsCompiled p code
  pub numbers : r.numbers ≡ numbers_with settings r.numbers.seed
  pub lawful : AreAllPlans (run_of code headers settings) plans
  pub is : text ≡ report p headers r.brief (wanted r.trace (trace_lines p code headers settings plans))

-- this is what a mode prints of a program and headers: the report of the sequential run, on a network maybe with a trace; or
-- the text of the program's code, with the places of the headers
abbrev pub IsTextOf : Mode → Request → Program → List (List ℤ) → List ℕ → Type 0
IsTextOf One r p headers text = text ≡ report p headers r.brief []
IsTextOf Plan r p headers text = (code : Staged) × IsCompiled p code × (text ≡ plan_text p code headers)
IsTextOf Serial r p headers text = IsReportText r p headers text
IsTextOf Run r p headers text = IsReportText r p headers text

-- this is what a request prints of the program that a text is accepted as, and of the headers of a load
pub record Prints (r : Request) (text : List ℕ) (load : Load) (printed : List ℕ) : Type 0 where
  pub program : Program
  pub headers : List (List ℤ)
  pub accepted : IsAccepted text program
  pub loaded : AreHeadersOf load program.packet.fields headers
  pub is : IsTextOf r.mode r program headers printed

-- where all that is read is told, this holds of what the request prints of it
abbrev pub OfText : Request → StoreView → (List ℕ → Type 0) → Type 0
OfText r store P = IfSome (store.told r.program) (λ text. IfSome (load_of r.capture store) (λ load.
    (printed : List ℕ) × Prints r text load printed × P printed))

-- the count of a name rose
abbrev pub RoseFor : List ℕ → StoreView → StoreView → Type 0
RoseFor name old new = Rose (old.faults name) (new.faults name)

-- why a request gets this answer, of the store before and after
abbrev pub Cause : Status → Request → StoreView → StoreView → Type 0
Cause status.Done r old new = IsRunnable r old
Cause status.Help r old new = ⊥
Cause status.Words r old new = ⊥
Cause (status.Program f) r old new = (lacks_memory f ≡ false) × IfSome (old.told r.program) (IsNoProgram f)
Cause (status.Capture f) r old new = (f ≢ capture.NoMemory) × IfSome (old.told r.program) IsProgram × IfSome (load_of r.capture old) (IsNoLoad f)
Cause status.ReadFault r old new = RoseFor r.program old new ⊎ (IfSome (old.told r.program) IsProgram × RoseIn r.capture old new)
Cause status.WriteFault r old new = IsRunnable r old
Cause status.NoMemory r old new = Unit {0}

-- what the output gains by this answer to a request: what it prints, a prefix of that where a write failed, or nothing
abbrev pub Gained : Status → Request → StoreView → SinkView → SinkView → Type 0
Gained status.Done r store old new = OfText r store (λ text. new.taken ≡ gained text old.taken)
Gained status.WriteFault r store old new = Rose old.faults new.faults × OfText r store (TookFront old.taken new.taken)
Gained answer r store old new = new ≡ old

-- no read of the program or of the capture failed
abbrev pub IsReadThrough : Request → StoreView → StoreView → Type 0
IsReadThrough r old new = (¬ RoseFor r.program old new) × (¬ RoseIn r.capture old new)

-- the answer is this one, unless memory ran out
abbrev pub IsOrNoMemory : Status → Status → Type 0
IsOrNoMemory answer s = (answer ≡ s) ⊎ (answer ≡ status.NoMemory)

-- the answer comes only where this holds, and then no other comes, unless memory ran out
abbrev pub ComesWhere : Type 0 → Status → Status → Type 0
ComesWhere P answer s = (answer ≡ s → P) × (P → IsOrNoMemory answer s)

-- the answer is about the program
abbrev pub IsAboutProgram : Status → Type 0
IsAboutProgram status.Done = ⊥
IsAboutProgram status.Help = ⊥
IsAboutProgram status.Words = ⊥
IsAboutProgram (status.Program f) = Unit {0}
IsAboutProgram (status.Capture f) = ⊥
IsAboutProgram status.ReadFault = ⊥
IsAboutProgram status.WriteFault = ⊥
IsAboutProgram status.NoMemory = ⊥

-- what tells of an answer other than Done: a line, or the text of the help
abbrev pub line : Status → List ℕ
line status.Done = []
line status.Help = help_text
line status.Words = codes "mp5: words\n"
line (status.Program f) = program_line f
line (status.Capture f) = refusal_line f
line status.ReadFault = codes "mp5: read fault\n"
line status.WriteFault = codes "mp5: write fault\n"
line status.NoMemory = codes "mp5: no memory\n"

-- the exit status of an answer
abbrev pub code : Status → ℕ
code status.Done = 0
code status.Help = 1
code status.Words = 2
code (status.Program f) = 3
code (status.Capture f) = 4
code status.ReadFault = 5
code status.WriteFault = 6
code status.NoMemory = 7
