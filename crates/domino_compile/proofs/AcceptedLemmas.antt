-- A text is accepted as one program, or refused for one thing.
use Rattle.std.proofs.Common.{◌≡◌, ◌≢◌, ◌∙◌, ◌<◌, ◌≤◌, ◌⊎◌, inl, inr, ℕ, Bool, true, false, true≢false, List, Ok, Err, refl, sym, ap, subst, arith}
use Rattle.std.specs.Prelude.{Result, IfOk, IfErr}
use Rattle.std.proofs.lemmas.Bool.{cases_lt}
use Rattle.domino_tree.specs.declared.program.Program.{Program}
use Rattle.domino_tree.specs.Count.{count_of}
use Rattle.domino_syntax.specs.declared.fault.TextFault.{TextFault}
use Rattle.domino_syntax.specs.declared.fault.TextFault.TheVariants as text_fault
use Rattle.domino_syntax.specs.ProgramText.{IsProgramText, Refuses as RefusesText}
use Rattle.domino_syntax.proofs.Texts.{read_or_refused, one_program, one_refusal as one_text_refusal, decides as text_decides}
use Rattle.domino_names.specs.declared.fault.CheckFault.{CheckFault}
use Rattle.domino_names.specs.declared.fault.CheckFault.TheVariants as check_fault
use Rattle.domino_names.specs.NamesRefused.{OrElse}
use Rattle.domino_check.specs.Refused.{Passes, Refused}
use Rattle.domino_check.proofs.RefusedLemmas.{not_refused, one_refusal as one_check_refusal}
use Rattle.domino_compile.specs.declared.fault.ProgramFault.{ProgramFault}
use Rattle.domino_compile.specs.declared.fault.ProgramFault.TheVariants as program
use Rattle.domino_compile.specs.Compiled.{Translation}
use Rattle.domino_compile.specs.Accepted.{IsAccepted, IsUnaccepted, IsTooLarge, IsCompiledTo, IsRefusedFor, of_text, of_check}
use Rattle.domino_compile.proofs.CheckDecides.{passes_or_refused}

-- ---- one answer

-- no text is both accepted and refused
pub accepted_or_not : (text : List ℕ) (p : Program) (f : ProgramFault) → IsAccepted text p → IsUnaccepted f text → ⊥
accepted_or_not text p (program.Text f) a h = read_or_refused text p f a.read h
accepted_or_not text p (program.Check f) a h = not_refused p f a.passes (subst (λ (q : Program). Refused q f) (one_program text h.0 p h.1 a.read) h.2)
accepted_or_not text p (program.TooLarge n) a h = omega (arith, a.small, ap count_of (one_program text h.0 p h.1 a.read), h.3, h.4)
accepted_or_not text p program.NoMemory a h = h

-- a text is accepted as one program
pub one_accepted : (text : List ℕ) (p q : Program) → IsAccepted text p → IsAccepted text q → p ≡ q
one_accepted text p q a b = one_program text p q a.read b.read

-- no program is refused by a check where it, as the text's program, passes
passed_or_refused : (text : List ℕ) (p q : Program) (f : CheckFault) → IsProgramText text p → IsProgramText text q → Passes p → Refused q f → ⊥
passed_or_refused text p q f a b passes h = not_refused p f passes (subst (λ (r : Program). Refused r f) (one_program text q p b a) h)

-- a text is refused for one thing
pub one_fault : (text : List ℕ) (f g : ProgramFault) → IsUnaccepted f text → IsUnaccepted g text → f ≡ g
one_fault text (program.Text f) (program.Text g) a b = ap program.Text (one_text_refusal text f g a b)
one_fault text (program.Text f) (program.Check g) a b = absurd (read_or_refused text b.0 f b.1 a)
one_fault text (program.Text f) (program.TooLarge n) a b = absurd (read_or_refused text b.0 f b.1 a)
one_fault text (program.Check f) (program.Text g) a b = absurd (read_or_refused text a.0 g a.1 b)
one_fault text (program.Check f) (program.Check g) a b =
    ap program.Check (one_check_refusal b.0 f g (subst (λ (q : Program). Refused q f) (one_program text a.0 b.0 a.1 b.1) a.2) b.2)
one_fault text (program.Check f) (program.TooLarge n) a b = absurd (passed_or_refused text b.0 a.0 f b.1 a.1 b.2 a.2)
one_fault text (program.TooLarge n) (program.Text g) a b = absurd (read_or_refused text a.0 g a.1 b)
one_fault text (program.TooLarge n) (program.Check g) a b = absurd (passed_or_refused text a.0 b.0 g a.1 b.1 a.2 b.2)
one_fault text (program.TooLarge m) (program.TooLarge n) a b = ap program.TooLarge (a.3 ∙ ap count_of (one_program text a.0 b.0 a.1 b.1) ∙ sym b.3)
one_fault text program.NoMemory g a b = absurd a
one_fault text f program.NoMemory a b = absurd b

-- ---- each text has an answer

-- a text is accepted or refused
abbrev Answered : List ℕ → Type 0
Answered text = ((p : Program) × IsAccepted text p) ⊎ ((f : ProgramFault) × IsUnaccepted f text)

pub decides : (text : List ℕ) → Answered text
decides text = by_text (text_decides text)
  where
    by_count : (p : Program) → IsProgramText text p → Passes p → (1024 < count_of p) ⊎ (count_of p ≤ 1024) → Answered text
    by_count p read passes (inl large) = inr (program.TooLarge (count_of p), (p, read, passes, refl, large))
    by_count p read passes (inr small) = inl (p, record { read = read; passes = passes; small = small })

    by_checks : (p : Program) → IsProgramText text p → Passes p ⊎ ((f : CheckFault) × Refused p f) → Answered text
    by_checks p read (inl passes) = by_count p read passes (cases_lt 1024 (count_of p))
    by_checks p read (inr h) = inr (program.Check h.0, (p, read, h.1))

    by_text : ((p : Program) × IsProgramText text p) ⊎ ((f : TextFault) × RefusesText text f) → Answered text
    by_text (inl h) = by_checks h.0 h.1 (passes_or_refused h.0)
    by_text (inr h) = inr (program.Text h.0, h.1)

-- ---- what follows of a true answer

-- the answer is a program that the text is accepted as, or what it is refused for, or memory ran out
abbrev IsTrueOf : List ℕ → Result Translation ProgramFault → Type 0
IsTrueOf text result = IfOk result (λ c. IsAccepted text c.program) × IfErr result (λ f. f ≢ program.NoMemory → IsUnaccepted f text)

only_memory : (text : List ℕ) (e : ProgramFault) (p : Program) → (e ≢ program.NoMemory → IsUnaccepted e text) → IsAccepted text p → e ≡ program.NoMemory
only_memory text (program.Text f) p refused a = absurd (accepted_or_not text p (program.Text f) a (refused (λ no. cc)))
only_memory text (program.Check f) p refused a = absurd (accepted_or_not text p (program.Check f) a (refused (λ no. cc)))
only_memory text (program.TooLarge n) p refused a = absurd (accepted_or_not text p (program.TooLarge n) a (refused (λ no. cc)))
only_memory text program.NoMemory p refused a = refl

pub accepts : (text : List ℕ) (result : Result Translation ProgramFault) → IsTrueOf text result → (p : Program) → IsAccepted text p → IsCompiledTo result p
accepts text (Ok c) true_of p a = one_accepted text c.program p true_of.0 a
accepts text (Err e) true_of p a = only_memory text e p true_of.1 a

pub refuses : (text : List ℕ) (result : Result Translation ProgramFault) → IsTrueOf text result → (f : ProgramFault) → IsUnaccepted f text → IsRefusedFor result f
refuses text (Ok c) true_of f h = accepted_or_not text c.program f true_of.0 h
refuses text (Err e) true_of f h = λ other. one_fault text e f (true_of.1 other) h

-- ---- the refusal of each step

-- a text that isn't read is refused for that
pub not_read : (text : List ℕ) (f : TextFault) → (f ≢ text_fault.NoMemory → RefusesText text f) → of_text f ≢ program.NoMemory → IsUnaccepted (of_text f) text
not_read text text_fault.NoMemory h other = absurd (other refl)
not_read text f h other = h (λ e. (let b : ⊥ = cc in b))

-- one that is read to a program which the checks refuse, for that
pub not_passed : (text : List ℕ) (p : Program) (f : CheckFault) → IsProgramText text p → (f ≢ check_fault.NoMemory → Refused p f) → of_check f ≢ program.NoMemory → IsUnaccepted (of_check f) text
not_passed text p check_fault.NoMemory read h other = absurd (other refl)
not_passed text p f read h other = (p, read, h (λ e. (let b : ⊥ = cc in b)))

-- and one that is read to a program which passes and is too large
pub not_flat : (text : List ℕ) (p : Program) (f : ProgramFault) → IsProgramText text p → Passes p → IsTooLarge p f → IsUnaccepted f text
not_flat text p f read passes h =
    subst (λ (g : ProgramFault). IsUnaccepted g text) (sym h.1) (p, read, passes, refl, h.0)

-- ---- want of memory

abbrev is_memory : CheckFault → Bool
is_memory check_fault.NoMemory = true
is_memory f = false

or_no : {R N L : Type 0} → (R → ⊥) → (L → ⊥) → OrElse R N L → ⊥
or_no a b (inl r) = a r
or_no a b (inr x) = b x.1

-- no check refuses a program for it
pub memory_refuses_none : (p : Program) → Refused p check_fault.NoMemory → ⊥
memory_refuses_none p =
    let none : (f : CheckFault) → check_fault.NoMemory ≡ f → is_memory f ≡ false → ⊥ = λ f e other. true≢false (ap is_memory e ∙ other) in
    or_no (or_no (λ h. none _ h.amiss.1 refl) (or_no (λ h. none _ h.amiss.1 refl) (or_no (λ h. none _ h.amiss.1 refl) (λ h. none _ h.amiss.1 refl))))
    (or_no (or_no (λ h. none _ h.amiss.2 refl) (λ h. none _ h.amiss.1 refl)) (or_no (λ h. none _ h.amiss.1 refl) (λ h. none _ h.amiss.2 refl)))
