-- What the answer to the words is: the clauses on Help and Words, and what is said of a request.
use Rattle.std.proofs.Common.{◌≡◌, ◌∙◌, inl, inr, List, Option, None, Some, refl, sym, subst}
use Rattle.std.specs.Prelude.{IfSome}
use Rattle.clap.specs.Words.{Text}
use Rattle.command_line.specs.declared.request.WordsFault.{WordsFault}
use Rattle.command_line.specs.declared.request.WordsFault.TheVariants as fault
use Rattle.command_line.specs.CommandLine.{Request, AsksForHelp, IsRefused, NotTaken, asked}
use Rattle.command_line.proofs.WordLemmas.{help_not_taken}
use Rattle.switch_runner.specs.declared.status.Status.{Status}
use Rattle.switch_runner.specs.declared.status.Status.TheVariants as status
use Rattle.switch_runner.specs.Causes.{Cause, ComesWhere, answer_of_words}
use Rattle.switch_runner.specs.Outside.{StoreView}
use Rattle.switch_runner.proofs.CauseLemmas.{not_words, not_help}

not_both : {A : Type 0} (o : Option A) (x : A) → o ≡ Some x → o ≡ None → ⊥
not_both {A = A} o x some none = let f : ◌≡◌ {A = Option A} (Some x) None = sym some ∙ none in let g : ⊥ = cc in g

-- the clauses on Help and Words, where the words are taken
pub taken_help : (words : List Text) (s : Status) (r : Request) (old new : StoreView) → asked words ≡ Some r → Cause s r old new → ComesWhere (AsksForHelp words) s status.Help
taken_help words s r old new e h = (λ help. absurd (not_help s r old new h help), λ help. absurd (not_both (asked words) r e (help_not_taken words help)))

pub taken_words : (words : List Text) (s : Status) (r : Request) (old new : StoreView) → asked words ≡ Some r → Cause s r old new → ComesWhere (IsRefused words) s status.Words
taken_words words s r old new e h = (λ bad. absurd (not_words s r old new h bad), λ refused. absurd (not_both (asked words) r e refused.0))

-- the same, where they aren't, or where memory ran out
pub not_taken_help : (words : List Text) (f : WordsFault) → NotTaken words f → ComesWhere (AsksForHelp words) (answer_of_words f) status.Help
not_taken_help words fault.Help h = (λ e. h, λ help. inl refl)
not_taken_help words fault.Words h = (λ e. absurd (let f : ⊥ = cc in f), λ help. absurd (h.1 help))
not_taken_help words fault.NoMemory h = (λ e. absurd (let f : ⊥ = cc in f), λ help. inr refl)

pub not_taken_words : (words : List Text) (f : WordsFault) → NotTaken words f → ComesWhere (IsRefused words) (answer_of_words f) status.Words
not_taken_words words fault.Help h = (λ e. absurd (let f : ⊥ = cc in f), λ refused. absurd (refused.1 h))
not_taken_words words fault.Words h = (λ e. h, λ refused. inl refl)
not_taken_words words fault.NoMemory h = (λ e. absurd (let f : ⊥ = cc in f), λ refused. inr refl)

-- what holds of the names that are asked for
pub if_these : {A : Type 0} (o : Option A) (x : A) (P : A → Type 0) → o ≡ Some x → P x → IfSome o P
if_these {A = A} o x P e h = subst (λ (q : Option A). IfSome q P) (sym e) h

if_none : {A : Type 0} (o : Option A) (P : A → Type 0) → o ≡ None → IfSome o P
if_none {A = A} o P e = subst (λ (q : Option A). IfSome q P) (sym e) tt

if_any : {A : Type 0} (o : Option A) (P : A → Type 0) → ((x : A) → P x) → IfSome o P
if_any None P h = tt
if_any (Some x) P h = h x

-- taken words are answered by such a status for want of memory alone
pub not_taken_asked : (words : List Text) (f : WordsFault) (P : Status → Request → Type 0) → ((r : Request) → P status.NoMemory r) → NotTaken words f → IfSome (asked words) (P (answer_of_words f))
not_taken_asked words fault.Help P free h = if_none (asked words) (P status.Help) (help_not_taken words h)
not_taken_asked words fault.Words P free h = if_none (asked words) (P status.Words) h.0
not_taken_asked words fault.NoMemory P free h = if_any (asked words) (P status.NoMemory) free

-- a request isn't missing
pub taken_untouched : (words : List Text) (r : Request) (P : Type 0) → asked words ≡ Some r → asked words ≡ None → P
taken_untouched words r P some none = absurd (not_both (asked words) r some none)
