-- The networks that a call runs.
use Rattle.std.specs.Prelude.{◌≡◌, ◌⊎◌, ℕ, ℤ, Bool, true, false, List, Option, Some, None, IfSome}
use Rattle.mp5_words.specs.declared.settings.Settings.{Settings}
use Rattle.domino_tree.specs.declared.program.Program.{Program}
use Rattle.code_forms.specs.Staged.{Staged}
use Rattle.domino_compile.specs.Accepted.{IsAccepted}
use Rattle.domino_compile.specs.Compiled.{IsCompiled}
use Rattle.command_line.specs.declared.request.Mode.{Mode}
use Rattle.command_line.specs.declared.request.Mode.TheVariants.{One, Plan, Run, Serial}
use Rattle.command_line.specs.CommandLine.{Numbers, Request, numbers_with}
use Rattle.switch_net.specs.Marks.{Runs, HasRun}
use Rattle.compiled_run.specs.SourceRun.{source_mark}
use Rattle.switch_runner.specs.declared.status.Status.{Status}
use Rattle.switch_runner.specs.declared.status.Status.TheVariants as status
use Rattle.switch_runner.specs.Outside.{StoreView, Rose}
use Rattle.switch_runner.specs.Loads.{Load, load_of, AreHeadersOf}

-- whether a mode runs a network
abbrev pub runs_network : Mode → Bool
runs_network One = false
runs_network Plan = false
runs_network Serial = true
runs_network Run = true

-- the seed of the order in which a mode lets pipes take turns, where it has one: threads take none
abbrev pub seed_in : Mode → Numbers → Option ℕ
seed_in Serial n = Some n.seed
seed_in mode n = None

-- a network of the program's code was run on these headers, as the mode does, with these numbers: the last mark is that of
-- this run
pub record RanOn (mode : Mode) (n : Numbers) (p : Program) (headers : List (List ℤ)) (old new : Runs) : Type 0 where
  pub code : Staged
  pub settings : Settings
  pub compiled : IsCompiled p code
  pub numbers : n ≡ numbers_with settings n.seed
  pub ran : HasRun (source_mark p code headers settings (seed_in mode n)) old new

-- the same of the program that a text is accepted as, and of the headers of a load
pub record RanOf (mode : Mode) (n : Numbers) (text : List ℕ) (load : Load) (old new : Runs) : Type 0 where
  pub program : Program
  pub headers : List (List ℤ)
  pub accepted : IsAccepted text program
  pub loaded : AreHeadersOf load program.packet.fields headers
  pub ran : RanOn mode n program headers old new

-- a network was run; where all that is read is told, it was that of what is told
pub record RanFor (r : Request) (store : StoreView) (old new : Runs) : Type 0 where
  pub rose : Rose old.count new.count
  pub told : IfSome (store.told r.program) (λ text. IfSome (load_of r.capture store) (λ load. RanOf r.mode r.numbers text load old new))

-- an answer behind which a network was run, which this is said of: one that prints, and maybe one for want of memory
abbrev pub RanBy : (Runs → Runs → Type 0) → Status → Runs → Runs → Type 0
RanBy P status.Done old new = P old new
RanBy P status.WriteFault old new = P old new
RanBy P status.NoMemory old new = (new ≡ old) ⊎ P old new
RanBy P s old new = new ≡ old

-- the same by the mode: there is a network in some modes alone
abbrev pub RanIn : Mode → (Runs → Runs → Type 0) → Status → Runs → Runs → Type 0
RanIn Serial P s old new = RanBy P s old new
RanIn Run P s old new = RanBy P s old new
RanIn mode P s old new = new ≡ old
