-- Faults as answers, where a lower want of memory is the upper one.
use Rattle.std.proofs.Common.{◌≡◌, ◌≢◌, List, ℕ, false, take, Err, refl, subst}
use Rattle.std.specs.Prelude.{IfSome, IsErrOf}
use Rattle.capture_io.specs.declared.fault.CaptureFault.{CaptureFault}
use Rattle.capture_io.specs.declared.fault.CaptureFault.TheVariants as capture
use Rattle.capture_io.specs.Refusal.{Refuses}
use Rattle.domino_syntax.specs.declared.fault.TextFault.TheVariants as text_fault
use Rattle.domino_names.specs.declared.fault.CheckFault.TheVariants as check_fault
use Rattle.switch_runner.specs.declared.outside.StoreFault.{StoreFault}
use Rattle.switch_runner.specs.declared.outside.StoreFault.TheVariants as store
use Rattle.domino_compile.specs.declared.fault.ProgramFault.{ProgramFault}
use Rattle.domino_compile.specs.declared.fault.ProgramFault.TheVariants as program
use Rattle.domino_compile.specs.Accepted.{IsUnaccepted}
use Rattle.domino_compile.proofs.AcceptedLemmas.{memory_refuses_none}
use Rattle.switch_runner.specs.Outside.{StoreView}
use Rattle.std.specs.Option.{option_map}
use Rattle.std.specs.Prelude.{Option, Some, None}
use Rattle.command_line.specs.CommandLine.{File}
use Rattle.switch_runner.specs.Loads.{Load, Bytes, IsNoCapture, IsNoLoad}
use Rattle.switch_runner.specs.Causes.{RoseFor, IsNoProgram, lacks_memory, answer_of_program, answer_of_capture, answer_of_store}
use Rattle.switch_runner.specs.Top.{NoSource, NoHeaders}
use Rattle.switch_runner.proofs.TopLemmas.{if_told}

-- what a text isn't accepted for is no want of memory
no_want : (text : List ℕ) (f : ProgramFault) → IsUnaccepted f text → lacks_memory f ≡ false
no_want text (program.Text text_fault.NoMemory) h = absurd h
no_want text (program.Text f) h = refl
no_want text (program.Check check_fault.NoMemory) h = absurd (memory_refuses_none h.0 h.2)
no_want text (program.Check f) h = refl
no_want text (program.TooLarge n) h = refl
no_want text program.NoMemory h = absurd h

-- a text that isn't accepted is no program of its name
pub no_source : (name : List ℕ) (old new : StoreView) (read : List ℕ) (f : ProgramFault) → IfSome (old.told name) (λ bytes. read ≡ take 65537 bytes) → (f ≢ program.NoMemory → IsUnaccepted f read)
    → NoSource name old new (answer_of_program f)
no_source name old new read program.NoMemory told h = tt
no_source name old new read f told h =
    let refused : IsUnaccepted f read = h (λ e. (let b : ⊥ = cc in b)) in
    (no_want read f refused, if_told (old.told name) (λ bytes. read ≡ take 65537 bytes) (IsNoProgram f) (λ bytes e. subst (λ (l : List ℕ). IsUnaccepted f l) e refused) told)

-- what holds of the bytes of a file holds of what the file stands for
pub of_file : (told : Option (List ℕ)) (P : Load → Type 0) → IfSome told (λ bytes. P (Bytes bytes)) → IfSome (option_map Bytes told) P
of_file None P h = tt
of_file (Some bytes) P h = h

-- bytes that aren't read are no capture of their name
pub no_headers : (name : List ℕ) (old new : StoreView) (read : List ℕ) (f : CaptureFault) → IfSome (old.told name) (λ bytes. read ≡ take 134217729 bytes) → (f ≢ capture.NoMemory → Refuses read f)
    → NoHeaders (File name) old new (answer_of_capture f)
no_headers name old new read capture.NoMemory told h = tt
no_headers name old new read f told h =
    let other : f ≢ capture.NoMemory = λ e. (let b : ⊥ = cc in b) in
    (other, of_file (old.told name) (IsNoLoad f) (if_told (old.told name) (λ bytes. read ≡ take 134217729 bytes) (IsNoCapture f) (λ bytes e. subst (λ (l : List ℕ). Refuses l f) e (h other)) told))

-- a read that failed gives no program
pub source_unread : {T : Type 0} (name : List ℕ) (old new : StoreView) (f : StoreFault) → (IsErrOf {T = T} (Err f) store.Failed → RoseFor name old new) → NoSource name old new (answer_of_store f)
source_unread name old new store.Failed h = h refl
source_unread name old new store.NoMemory h = tt

-- nor a capture
pub headers_unread : {T : Type 0} (name : List ℕ) (old new : StoreView) (f : StoreFault) → (IsErrOf {T = T} (Err f) store.Failed → RoseFor name old new) → NoHeaders (File name) old new (answer_of_store f)
headers_unread name old new store.Failed h = h refl
headers_unread name old new store.NoMemory h = tt
