-- The steps of the header run, from which values are clean.
use Rattle.std.specs.Prelude.{ℕ, suc, Bool, true, if◌then◌else◌, List, [], ◌∷◌, ◌++◌, Option, Some, None}
use Rattle.std.specs.List.{slice_index_or}
use Rattle.code_forms.specs.declared.flat.Operand.{Operand}
use Rattle.code_forms.specs.declared.flat.Operand.TheVariants as operand
use Rattle.code_forms.specs.declared.flat.Instr.{Instr}
use Rattle.code_forms.specs.declared.flat.Instr.TheVariants as instr
use Rattle.code_forms.specs.declared.parts.HeaderStep.{HeaderStep}

-- whether the value of a slot is clean
abbrev pub clean_at : List Bool → ℕ → Bool
clean_at clean slot = slice_index_or clean slot true

-- whether that of an operand is
abbrev pub operand_clean : List Bool → Operand → Bool
operand_clean clean (operand.Slot k) = clean_at clean k
operand_clean clean (operand.Number n) = true

-- what the header run makes of an instruction whose value is clean or not: a clean one stays. A test of a condition that
-- isn't clean gives its guard, since it may hold or fail. All else is left out
abbrev pub header_instr : List Bool → Bool → Instr → Option Instr
header_instr clean own (instr.Yes guard c) = Some (if operand_clean clean c then instr.Yes guard c else instr.Move guard)
header_instr clean own (instr.No guard c) = Some (if operand_clean clean c then instr.No guard c else instr.Move guard)
header_instr clean own (instr.One op a) = if own then Some (instr.One op a) else None
header_instr clean own (instr.Two op a b) = if own then Some (instr.Two op a b) else None
header_instr clean own (instr.Pick c a b) = if own then Some (instr.Pick c a b) else None
header_instr clean own (instr.Hash kind a b c) = if own then Some (instr.Hash kind a b c) else None
header_instr clean own (instr.Move a) = if own then Some (instr.Move a) else None
header_instr clean own (instr.Index array a) = if own then Some (instr.Index array a) else None
header_instr clean own (instr.Load array) = None
header_instr clean own (instr.Store array a) = None

-- a step that writes such a slot
abbrev pub step_of : ℕ → Option Instr → List HeaderStep
step_of slot None = []
step_of slot (Some i) = record { instr = i; slot = slot } ∷ []

-- the steps of instructions, from such a slot on
abbrev pub header_steps : List Bool → ℕ → List Instr → List HeaderStep
header_steps clean slot [] = []
header_steps clean slot (i ∷ instrs) = step_of slot (header_instr clean (clean_at clean slot) i) ++ header_steps clean (suc slot) instrs
