-- Which texts are accepted as programs, and why others aren't.
use Rattle.std.specs.Prelude.{◌≡◌, ◌≢◌, ℕ, ◌<◌, ◌≤◌, List, Result, Ok, Err}
use Rattle.domino_tree.specs.declared.program.Program.{Program}
use Rattle.domino_tree.specs.Count.{count_of}
use Rattle.domino_syntax.specs.declared.fault.TextFault.{TextFault}
use Rattle.domino_syntax.specs.declared.fault.TextFault.TheVariants as text_fault
use Rattle.domino_syntax.specs.ProgramText.{IsProgramText, Refuses as RefusesText}
use Rattle.domino_names.specs.declared.fault.CheckFault.{CheckFault}
use Rattle.domino_names.specs.declared.fault.CheckFault.TheVariants as check_fault
use Rattle.domino_check.specs.Refused.{Passes, Refused}
use Rattle.ssa_flatten.specs.declared.fault.FlatFault.{FlatFault}
use Rattle.ssa_flatten.specs.declared.fault.FlatFault.TheVariants as flat_fault
use Rattle.domino_compile.specs.declared.fault.ProgramFault.{ProgramFault}
use Rattle.domino_compile.specs.declared.fault.ProgramFault.TheVariants as program
use Rattle.domino_compile.specs.Compiled.{Translation}

-- the text is a program of the grammar, which passes the checks and counts at most 1,024 instructions
pub record IsAccepted (text : List ℕ) (p : Program) : Type 0 where
  pub read : IsProgramText text p
  pub passes : Passes p
  pub small : count_of p ≤ 1024

-- the program counts more than 1,024 instructions, and the fault tells how many
abbrev pub IsTooLarge : Program → ProgramFault → Type 0
IsTooLarge p f = (1024 < count_of p) × (f ≡ program.TooLarge (count_of p))

-- the text isn't accepted for this: it isn't read; or it is read to a program that the checks refuse; or to one that
-- passes and has more than 1,024 instructions
abbrev pub IsUnaccepted : ProgramFault → List ℕ → Type 0
IsUnaccepted (program.Text f) text = RefusesText text f
IsUnaccepted (program.Check f) text = (p : Program) × IsProgramText text p × Refused p f
IsUnaccepted (program.TooLarge n) text = (p : Program) × IsProgramText text p × Passes p × (n ≡ count_of p) × (1024 < n)
IsUnaccepted program.NoMemory text = ⊥

-- the refusal of a text as a fault of a program: want of memory is one fault, of whichever part
abbrev pub of_text : TextFault → ProgramFault
of_text text_fault.NoMemory = program.NoMemory
of_text f = program.Text f

-- the refusal of a program that is read
abbrev pub of_check : CheckFault → ProgramFault
of_check check_fault.NoMemory = program.NoMemory
of_check f = program.Check f

-- that of a program that passes
abbrev pub of_flat : FlatFault → ProgramFault
of_flat flat_fault.NoMemory = program.NoMemory
of_flat (flat_fault.TooLarge n) = program.TooLarge n

-- the answer is this program with its code, or memory ran out
abbrev pub IsCompiledTo : Result Translation ProgramFault → Program → Type 0
IsCompiledTo (Ok c) p = c.program ≡ p
IsCompiledTo (Err e) p = e ≡ program.NoMemory

-- the answer is this refusal, or memory ran out
abbrev pub IsRefusedFor : Result Translation ProgramFault → ProgramFault → Type 0
IsRefusedFor (Ok c) f = ⊥
IsRefusedFor (Err e) f = e ≢ program.NoMemory → e ≡ f
