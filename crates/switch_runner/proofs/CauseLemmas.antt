-- The causes of an answer, from those of each step.
use Rattle.std.proofs.Common.{◌≡◌, ◌≢◌, ◌≤◌, ◌+◌, ◌-◌, ◌^◌, ◌∙◌, inl, inr, ℕ, ℤ, List, take, Option, Some, None, refl, sym, ap, subst, arith, min}
use Rattle.std.specs.Prelude.{IfSome}
use Rattle.capture_io.specs.declared.fault.CaptureFault.{CaptureFault}
use Rattle.std.specs.Option.{option_map}
use Rattle.capture_io.proofs.WholeCapture.{one_answer, one_refusal}
use Rattle.domino_tree.specs.declared.program.Program.{Program}
use Rattle.domino_compile.specs.declared.fault.ProgramFault.{ProgramFault}
use Rattle.domino_compile.specs.Accepted.{IsAccepted}
use Rattle.domino_compile.proofs.AcceptedLemmas.{accepted_or_not, one_fault}
use Rattle.switch_runner.specs.declared.status.Status.{Status}
use Rattle.switch_runner.specs.declared.status.Status.TheVariants as status
use Rattle.command_line.specs.declared.request.Mode.{Mode}
use Rattle.command_line.specs.declared.request.Mode.TheVariants.{One, Plan, Run, Serial}
use Rattle.command_line.specs.CommandLine.{Origin, File, Made, Request}
use Rattle.switch_net.specs.Marks.{Runs}
use Rattle.switch_runner.specs.Networks.{RanBy, RanFor, RanIn, RanOf, RanOn}
use Rattle.switch_runner.specs.Loads.{Load, Bytes, Generated, load_of, AreHeadersOf, IsSomeCapture, IsNoCapture, IsSomeLoad, IsNoLoad, IsFile, RoseIn, ChangesAt}
use Rattle.switch_runner.specs.Causes.{Cause, Gained, IsRunnable, IsProgram, IsNoProgram, IsAboutProgram, IsOrNoMemory, IsReadThrough, IsTextOf, Prints, OfText}
use Rattle.switch_runner.specs.Outside.{StoreView, SinkView, ChangesOnly, IsKept, TookFront, gained}
use Rattle.switch_runner.specs.Top.{NoSource, NoHeaders, Ends, RunEnds, Serves, TextEnds}
use Rattle.switch_runner.proofs.MemoryLemmas.{same_or_not}
use Rattle.switch_runner.proofs.TopLemmas.{if_told, accepted_read, capture_read}

-- what follows of all that is told of a name holds of what is told
told_as : {A : Type 0} (told : Option A) (x : A) (P : A → Type 0) → told ≡ Some x → IfSome told P → P x
told_as {A = A} told x P e h = let k : IfSome (Some x) P = subst (λ (o : Option A). IfSome o P) e h in k

-- the same is told later
told_later : {A : Type 0} (old new : Option A) (P : A → Type 0) → new ≡ old → IfSome new P → IfSome old P
told_later {A = A} old new P e h = subst (λ (o : Option A). IfSome o P) e h

-- a text that is accepted is a program
program_told : (told : Option (List ℕ)) (p : Program) → IfSome told (λ text. IsAccepted text p) → IfSome told IsProgram
program_told told p h = if_told told (λ text. IsAccepted text p) IsProgram (λ text a. (p, a)) h

-- ---- the store, after one read and after two

-- no count fell where only one changed
none_fell : (name : List ℕ) (old new : StoreView) → ChangesOnly name old new → (other : List ℕ) → old.faults other ≤ new.faults other
none_fell name old new only other = elim (same_or_not other name) [
  | inl e ↦ subst (λ (n : List ℕ). old.faults n ≤ new.faults n) (sym e) only.later
  | inr d ↦ (let s : new.faults other ≡ old.faults other = only.others other d in omega arith)
]

kept_once : (name : List ℕ) (old new : StoreView) → ChangesOnly name old new → IsKept old new
kept_once name old new only = record { told = only.told; later = none_fell name old new only }

-- the same of what a capture's name stands for
kept_load : (o : Origin) (old new : StoreView) → ChangesAt o old new → IsKept old new
kept_load (File name) old new only = kept_once name old new only
kept_load (Made count seed) old new same = subst (λ (v : StoreView). IsKept old v) (sym same) (record { told = λ name. refl; later = λ name. omega arith })

others_load : (o : Origin) (old new : StoreView) → ChangesAt o old new → (name : List ℕ) → ¬ IsFile o name → new.faults name ≡ old.faults name
others_load (File file) old new only name other = only.others name other
others_load (Made count seed) old new same name other = ap (λ (v : StoreView). v.faults name) same

-- it stands for the same where the store tells the same
load_same : (o : Origin) (old new : StoreView) → ((name : List ℕ) → new.told name ≡ old.told name) → load_of o new ≡ load_of o old
load_same (File name) old new same = ap (option_map Bytes) (same name)
load_same (Made count seed) old new same = refl

kept_twice : (a : List ℕ) (o : Origin) (old mid new : StoreView) → ChangesOnly a old mid → ChangesAt o mid new → IsKept old new
kept_twice a o old mid new first second =
    let one = kept_once a old mid first in
    let two = kept_load o mid new second in
    record {
      told = λ name. two.told name ∙ one.told name;
      later = λ name. omega (arith, one.later name, two.later name);
    }

others_twice : (a : List ℕ) (o : Origin) (old mid new : StoreView) → ChangesOnly a old mid → ChangesAt o mid new → (name : List ℕ) → name ≢ a → ¬ IsFile o name → new.faults name ≡ old.faults name
others_twice a o old mid new first second name not_a not_file = others_load o mid new second name not_file ∙ first.others name not_a

-- a count that rose since a later moment rose since an earlier one
rose_earlier : (a : List ℕ) (o : Origin) (old mid new : StoreView) → ChangesOnly a old mid → RoseIn o mid new → RoseIn o old new
rose_earlier a (File name) old mid new first rose =
    let h : old.faults name ≤ mid.faults name = none_fell a old mid first name in
    let k : min (mid.faults name + 1) (2 ^ 64 - 1) ≤ new.faults name = rose in
    omega arith
rose_earlier a (Made count seed) old mid new first rose = rose

-- ---- no program was read

cause_source : (s : Status) (r : Request) (old new : StoreView) → NoSource r.program old new s → Cause s r old new
cause_source (status.Program f) r old new h = h
cause_source status.ReadFault r old new h = inl h
cause_source status.NoMemory r old new h = tt
cause_source s r old new h = absurd h

gained_source : (s : Status) (r : Request) (old new : StoreView) (out : SinkView) → NoSource r.program old new s → Gained s r old out out
gained_source (status.Program f) r old new out h = refl
gained_source status.ReadFault r old new out h = refl
gained_source status.NoMemory r old new out h = refl
gained_source s r old new out h = absurd h

-- no network is run without a program or a capture
none_by_source : (s : Status) (P : Runs → Runs → Type 0) (name : List ℕ) (old new : StoreView) (runs : Runs) → NoSource name old new s → RanBy P s runs runs
none_by_source (status.Program f) P name old new runs h = refl
none_by_source status.ReadFault P name old new runs h = refl
none_by_source status.NoMemory P name old new runs h = inl refl
none_by_source s P name old new runs h = absurd h

none_source : (mode : Mode) (s : Status) (P : Runs → Runs → Type 0) (name : List ℕ) (old new : StoreView) (runs : Runs) → NoSource name old new s → RanIn mode P s runs runs
none_source One s P name old new runs h = refl
none_source Plan s P name old new runs h = refl
none_source Serial s P name old new runs h = none_by_source s P name old new runs h
none_source Run s P name old new runs h = none_by_source s P name old new runs h

none_by_headers : (s : Status) (P : Runs → Runs → Type 0) (o : Origin) (old new : StoreView) (runs : Runs) → NoHeaders o old new s → RanBy P s runs runs
none_by_headers (status.Capture f) P o old new runs h = refl
none_by_headers status.ReadFault P o old new runs h = refl
none_by_headers status.NoMemory P o old new runs h = inl refl
none_by_headers s P o old new runs h = absurd h

none_headers : (mode : Mode) (s : Status) (P : Runs → Runs → Type 0) (o : Origin) (old new : StoreView) (runs : Runs) → NoHeaders o old new s → RanIn mode P s runs runs
none_headers One s P o old new runs h = refl
none_headers Plan s P o old new runs h = refl
none_headers Serial s P o old new runs h = none_by_headers s P o old new runs h
none_headers Run s P o old new runs h = none_by_headers s P o old new runs h

pub serves_no_source : (s : Status) (r : Request) (old new : StoreView) (out : SinkView) (runs : Runs) → ChangesOnly r.program old new → NoSource r.program old new s → Serves r old new out out runs runs s
serves_no_source s r old new out runs only h = record {
  cause = cause_source s r old new h;
  outputs = record { later = omega arith; text = gained_source s r old new out h };
  kept = kept_once r.program old new only;
  others = λ name not_program not_capture. only.others name not_program;
  stops = record { answered = λ about. only; told = λ text told isnt. only };
  ran = none_source r.mode s (RanFor r old) r.program old new runs h;
}

-- ---- a program was read, and no capture

cause_headers : (s : Status) (r : Request) (old mid new : StoreView) → ChangesOnly r.program old mid → IfSome (old.told r.program) IsProgram → NoHeaders r.capture mid new s → Cause s r old new
cause_headers (status.Capture f) r old mid new first p h = (h.0, p, told_later (load_of r.capture old) (load_of r.capture mid) (IsNoLoad f) (load_same r.capture old mid first.told) h.1)
cause_headers status.ReadFault r old mid new first p h = inr (p, rose_earlier r.program r.capture old mid new first h)
cause_headers status.NoMemory r old mid new first p h = tt
cause_headers s r old mid new first p h = absurd h

gained_headers : (s : Status) (r : Request) (old mid new : StoreView) (out : SinkView) → NoHeaders r.capture mid new s → Gained s r old out out
gained_headers (status.Capture f) r old mid new out h = refl
gained_headers status.ReadFault r old mid new out h = refl
gained_headers status.NoMemory r old mid new out h = refl
gained_headers s r old mid new out h = absurd h

-- no answer about the program comes later
not_program_headers : (s : Status) (o : Origin) (old new : StoreView) → NoHeaders o old new s → IsAboutProgram s → ⊥
not_program_headers (status.Program f) o old new h a = h
not_program_headers s o old new h a = a

-- a told text that is a program doesn't stop a call
not_stopped : (told : Option (List ℕ)) (text : List ℕ) → IfSome told IsProgram → told ≡ Some text → ¬ IsProgram text → ⊥
not_stopped told text p e isnt = isnt (told_as told text IsProgram e p)

pub serves_no_headers : (s : Status) (r : Request) (p : Program) (old mid new : StoreView) (out : SinkView) (runs : Runs) → ChangesOnly r.program old mid → ChangesAt r.capture mid new
    → IfSome (old.told r.program) (λ text. IsAccepted text p) → NoHeaders r.capture mid new s → Serves r old new out out runs runs s
serves_no_headers s r p old mid new out runs first second accepted h =
    let program : IfSome (old.told r.program) IsProgram = program_told (old.told r.program) p accepted in
    record {
      cause = cause_headers s r old mid new first program h;
      outputs = record { later = omega arith; text = gained_headers s r old mid new out h };
      kept = kept_twice r.program r.capture old mid new first second;
      others = others_twice r.program r.capture old mid new first second;
      stops = record {
        answered = λ about. absurd (not_program_headers s r.capture mid new h about);
        told = λ text told isnt. absurd (not_stopped (old.told r.program) text program told isnt);
      };
      ran = none_headers r.mode s (RanFor r old) r.capture mid new runs h;
    }

-- ---- both were read, and what the mode says was done

-- what has headers can be run
some_load : (load : Load) (names : List (List ℕ)) (hs : List (List ℤ)) → AreHeadersOf load names hs → IsSomeLoad load
some_load (Bytes bytes) names hs h = (h.0, h.1)
some_load (Generated count seed) names hs h = tt

runnable : (r : Request) (store : StoreView) (p : Program) (hs : List (List ℤ)) → IfSome (store.told r.program) (λ text. IsAccepted text p) → IfSome (load_of r.capture store) (λ load. AreHeadersOf load p.packet.fields hs) → IsRunnable r store
runnable r store p hs accepted loaded = record {
  program = program_told (store.told r.program) p accepted;
  capture = if_told (load_of r.capture store) (λ load. AreHeadersOf load p.packet.fields hs) IsSomeLoad (λ load h. some_load load p.packet.fields hs h) loaded;
}

-- what is printed of what was read
of_text : (r : Request) (store : StoreView) (p : Program) (hs : List (List ℤ)) (printed : List ℕ) (P : List ℕ → Type 0) → IfSome (store.told r.program) (λ text. IsAccepted text p)
    → IfSome (load_of r.capture store) (λ load. AreHeadersOf load p.packet.fields hs) → IsTextOf r.mode r p hs printed → P printed → OfText r store P
of_text r store p hs printed P accepted loaded is h =
    if_told (store.told r.program) (λ text. IsAccepted text p) (λ text. IfSome (load_of r.capture store) (λ load. (out : List ℕ) × Prints r text load out × P out))
    (λ text a. if_told (load_of r.capture store) (λ load. AreHeadersOf load p.packet.fields hs) (λ load. (out : List ℕ) × Prints r text load out × P out)
    (λ load c. (printed, record { program = p; headers = hs; accepted = a; loaded = c; is = is }, h)) loaded)
    accepted

cause_ran : (s : Status) (r : Request) (T : List ℕ → Type 0) (old new : StoreView) (before after : SinkView) → IsRunnable r old → TextEnds T before after s → Cause s r old new
cause_ran status.Done r T old new before after runs h = runs
cause_ran status.WriteFault r T old new before after runs h = runs
cause_ran status.NoMemory r T old new before after runs h = tt
cause_ran s r T old new before after runs h = absurd h

gained_ran : (s : Status) (r : Request) (p : Program) (hs : List (List ℤ)) (store : StoreView) (before after : SinkView) → IfSome (store.told r.program) (λ text. IsAccepted text p)
    → IfSome (load_of r.capture store) (λ load. AreHeadersOf load p.packet.fields hs) → RunEnds r p hs before after s → Gained s r store before after
gained_ran status.Done r p hs store before after a c h = of_text r store p hs h.0 (λ text. after.taken ≡ gained text before.taken) a c h.1 h.2.taken
gained_ran status.WriteFault r p hs store before after a c h = (h.2.rose, of_text r store p hs h.0 (TookFront before.taken after.taken) a c h.1 h.2.front)
gained_ran status.NoMemory r p hs store before after a c h = h
gained_ran s r p hs store before after a c h = absurd h

later_ran : (s : Status) (T : List ℕ → Type 0) (before after : SinkView) → TextEnds T before after s → before.faults ≤ after.faults
later_ran status.Done T before after h = h.2.later
later_ran status.WriteFault T before after h = h.2.later
later_ran status.NoMemory T before after h = let e : after.faults ≡ before.faults = ap (λ (v : SinkView). v.faults) h in omega arith
later_ran s T before after h = absurd h

not_program_ran : (s : Status) (T : List ℕ → Type 0) (before after : SinkView) → TextEnds T before after s → IsAboutProgram s → ⊥
not_program_ran (status.Program f) T before after h a = h
not_program_ran s T before after h a = a

-- a request that ends with a text ends with one of which this holds
pub text_ends : (T : List ℕ → Type 0) (s : Status) (text : List ℕ) (before after : SinkView) → T text → Ends text before after s → TextEnds T before after s
text_ends T status.Done text before after is h = (text, is, h)
text_ends T status.WriteFault text before after is h = (text, is, h)
text_ends T status.NoMemory text before after is h = h
text_ends T s text before after is h = absurd h

-- what holds of it may be less
pub text_ends_as : (T U : List ℕ → Type 0) (s : Status) (before after : SinkView) → ((text : List ℕ) → T text → U text) → TextEnds T before after s → TextEnds U before after s
text_ends_as T U status.Done before after f h = (h.0, f h.0 h.1, h.2)
text_ends_as T U status.WriteFault before after f h = (h.0, f h.0 h.1, h.2)
text_ends_as T U status.NoMemory before after f h = h
text_ends_as T U s before after f h = absurd h

-- what was run of the read files was run of what is told
ran_told : (r : Request) (p : Program) (hs : List (List ℤ)) (store : StoreView) (old new : Runs) → IfSome (store.told r.program) (λ text. IsAccepted text p)
    → IfSome (load_of r.capture store) (λ load. AreHeadersOf load p.packet.fields hs) → RanOn r.mode r.numbers p hs old new → RanFor r store old new
ran_told r p hs store old new accepted loaded ran = record {
  rose = ran.ran.rose;
  told =
      if_told (store.told r.program) (λ text. IsAccepted text p) (λ text. IfSome (load_of r.capture store) (λ load. RanOf r.mode r.numbers text load old new))
      (λ text a. if_told (load_of r.capture store) (λ load. AreHeadersOf load p.packet.fields hs) (λ load. RanOf r.mode r.numbers text load old new)
      (λ load c. record { program = p; headers = hs; accepted = a; loaded = c; ran = ran }) loaded) accepted;
}

-- a network was run, and what it answered was printed
pub ran_ended : (P : Runs → Runs → Type 0) (s : Status) (T : List ℕ → Type 0) (before after : SinkView) (old new : Runs) → TextEnds T before after s → P old new → RanBy P s old new
ran_ended P status.Done T before after old new ends h = h
ran_ended P status.WriteFault T before after old new ends h = h
ran_ended P status.NoMemory T before after old new ends h = inr h
ran_ended P s T before after old new ends h = absurd ends

ran_by : (P Q : Runs → Runs → Type 0) (s : Status) (old new : Runs) → (P old new → Q old new) → RanBy P s old new → RanBy Q s old new
ran_by P Q status.Done old new f h = f h
ran_by P Q status.WriteFault old new f h = f h
ran_by P Q status.NoMemory old new f h = elim h [ inl same ↦ inl same | inr ran ↦ inr (f ran) ]
ran_by P Q s old new f h = h

ran_in : (mode : Mode) (P Q : Runs → Runs → Type 0) (s : Status) (old new : Runs) → (P old new → Q old new) → RanIn mode P s old new → RanIn mode Q s old new
ran_in One P Q s old new f h = h
ran_in Plan P Q s old new f h = h
ran_in Serial P Q s old new f h = ran_by P Q s old new f h
ran_in Run P Q s old new f h = ran_by P Q s old new f h

pub serves_run : (s : Status) (r : Request) (p : Program) (hs : List (List ℤ)) (old mid new : StoreView) (before after : SinkView) (start end : Runs) → ChangesOnly r.program old mid → ChangesAt r.capture mid new
    → IfSome (old.told r.program) (λ text. IsAccepted text p) → IfSome (load_of r.capture mid) (λ load. AreHeadersOf load p.packet.fields hs)
    → RunEnds r p hs before after s → RanIn r.mode (RanOn r.mode r.numbers p hs) s start end → Serves r old new before after start end s
serves_run s r p hs old mid new before after start end first second accepted loaded h ran =
    let told : IfSome (load_of r.capture old) (λ load. AreHeadersOf load p.packet.fields hs) =
    told_later (load_of r.capture old) (load_of r.capture mid) (λ load. AreHeadersOf load p.packet.fields hs) (load_same r.capture old mid first.told) loaded in
    record {
      cause = cause_ran s r (IsTextOf r.mode r p hs) old new before after (runnable r old p hs accepted told) h;
      outputs = record { later = later_ran s (IsTextOf r.mode r p hs) before after h; text = gained_ran s r p hs old before after accepted told h };
      kept = kept_twice r.program r.capture old mid new first second;
      others = others_twice r.program r.capture old mid new first second;
      stops = record {
        answered = λ about. absurd (not_program_ran s (IsTextOf r.mode r p hs) before after h about);
        told = λ text e isnt. absurd (not_stopped (old.told r.program) text (program_told (old.told r.program) p accepted) e isnt);
      };
      ran = ran_in r.mode (RanOn r.mode r.numbers p hs) (RanFor r old) s start end (ran_told r p hs old start end accepted told) ran;
    }

-- ---- what is told decides the answer, where no read failed

-- bytes that are told aren't both a capture and refused
not_both : (bytes : List ℕ) (f : CaptureFault) → IsSomeCapture bytes → IsNoCapture f bytes → ⊥
not_both bytes f c none = one_answer (take 134217729 bytes) c.0 f (capture_read (take 134217729 bytes) bytes c.0 refl c.1) none

-- a told text isn't both a program and none
told_or_not : (text : List ℕ) (f : ProgramFault) → IsProgram text → IsNoProgram f text → ⊥
told_or_not text f a fault = accepted_or_not (take 65537 text) a.0 f (accepted_read (take 65537 text) text a.0 refl a.1) fault

-- the same of what a name is told to be
not_program : (told : Option (List ℕ)) (text : List ℕ) (f : ProgramFault) → told ≡ Some text → IsNoProgram f text → IfSome told IsProgram → ⊥
not_program told text f e none h = told_or_not text f (told_as told text IsProgram e h) none

is_program : (told : Option (List ℕ)) (text : List ℕ) (f : ProgramFault) → told ≡ Some text → IsProgram text → IfSome told (IsNoProgram f) → ⊥
is_program told text f e p h = told_or_not text f p (told_as told text (IsNoProgram f) e h)

-- what can be run isn't refused
load_or_not : (load : Load) (f : CaptureFault) → IsSomeLoad load → IsNoLoad f load → ⊥
load_or_not (Bytes bytes) f c none = not_both bytes f c none
load_or_not (Generated count seed) f c none = none

not_capture : (told : Option Load) (load : Load) (f : CaptureFault) → told ≡ Some load → IsNoLoad f load → IfSome told IsSomeLoad → ⊥
not_capture told load f e none h = load_or_not load f (told_as told load IsSomeLoad e h) none

is_capture : (told : Option Load) (load : Load) (f : CaptureFault) → told ≡ Some load → IsSomeLoad load → IfSome told (IsNoLoad f) → ⊥
is_capture told load f e c h = load_or_not load f c (told_as told load (IsNoLoad f) e h)

-- and is refused for one thing
one_refused : (load : Load) (f g : CaptureFault) → IsNoLoad f load → IsNoLoad g load → f ≡ g
one_refused (Bytes bytes) f g first second = one_refusal (take 134217729 bytes) f g first second
one_refused (Generated count seed) f g first second = absurd first

-- no read failed, so it is no read fault
no_read_fault : (r : Request) (old new : StoreView) → IsReadThrough r old new → Cause status.ReadFault r old new → ⊥
no_read_fault r old new through h = elim h [ inl rose ↦ through.0 rose | inr rose ↦ through.1 rose.1 ]

pub program_always : (s : Status) (r : Request) (old new : StoreView) → Cause s r old new
    → (text : List ℕ) (f : ProgramFault) → old.told r.program ≡ Some text → IsNoProgram f text → IsReadThrough r old new → IsOrNoMemory s (status.Program f)
program_always status.Done r old new h text f e none through = absurd (not_program (old.told r.program) text f e none h.program)
program_always status.Help r old new h text f e none through = absurd h
program_always status.Words r old new h text f e none through = absurd h
program_always (status.Program first) r old new h text f e none through = inl (ap status.Program (one_fault (take 65537 text) first f (told_as (old.told r.program) text (IsNoProgram first) e h.1) none))
program_always (status.Capture fault) r old new h text f e none through = absurd (not_program (old.told r.program) text f e none h.1)
program_always status.ReadFault r old new h text f e none through = absurd (no_read_fault r old new through h)
program_always status.WriteFault r old new h text f e none through = absurd (not_program (old.told r.program) text f e none h.program)
program_always status.NoMemory r old new h text f e none through = inr refl

pub capture_always : (s : Status) (r : Request) (old new : StoreView) → Cause s r old new
    → (text : List ℕ) (load : Load) (f : CaptureFault) → old.told r.program ≡ Some text → load_of r.capture old ≡ Some load → IsProgram text → IsNoLoad f load → IsReadThrough r old new
    → IsOrNoMemory s (status.Capture f)
capture_always status.Done r old new h text load fault e f p none through = absurd (not_capture (load_of r.capture old) load fault f none h.capture)
capture_always status.Help r old new h text load fault e f p none through = absurd h
capture_always status.Words r old new h text load fault e f p none through = absurd h
capture_always (status.Program first) r old new h text load fault e f p none through = absurd (is_program (old.told r.program) text first e p h.1)
capture_always (status.Capture first) r old new h text load fault e f p none through =
    inl (ap status.Capture (one_refused load first fault (told_as (load_of r.capture old) load (IsNoLoad first) f h.2) none))
capture_always status.ReadFault r old new h text load fault e f p none through = absurd (no_read_fault r old new through h)
capture_always status.WriteFault r old new h text load fault e f p none through = absurd (not_capture (load_of r.capture old) load fault f none h.capture)
capture_always status.NoMemory r old new h text load fault e f p none through = inr refl

pub complete : (s : Status) (r : Request) (old new : StoreView) → Cause s r old new
    → (text : List ℕ) (load : Load) → old.told r.program ≡ Some text → load_of r.capture old ≡ Some load → IsProgram text → IsSomeLoad load → IsReadThrough r old new → s ≢ status.WriteFault
    → IsOrNoMemory s status.Done
complete status.Done r old new h text load e f p c through wrote = inl refl
complete status.Help r old new h text load e f p c through wrote = absurd h
complete status.Words r old new h text load e f p c through wrote = absurd h
complete (status.Program fault) r old new h text load e f p c through wrote = absurd (is_program (old.told r.program) text fault e p h.1)
complete (status.Capture fault) r old new h text load e f p c through wrote = absurd (is_capture (load_of r.capture old) load fault f c h.2)
complete status.ReadFault r old new h text load e f p c through wrote = absurd (no_read_fault r old new through h)
complete status.WriteFault r old new h text load e f p c through wrote = absurd (wrote refl)
complete status.NoMemory r old new h text load e f p c through wrote = inr refl

-- an answer with such a cause isn't Help, nor Words
pub not_help : (s : Status) (r : Request) (old new : StoreView) → Cause s r old new → s ≡ status.Help → ⊥
not_help s r old new h e = let k : Cause status.Help r old new = subst (λ (x : Status). Cause x r old new) e h in k

pub not_words : (s : Status) (r : Request) (old new : StoreView) → Cause s r old new → s ≡ status.Words → ⊥
not_words s r old new h e = let k : Cause status.Words r old new = subst (λ (x : Status). Cause x r old new) e h in k
