-- What flat code is of guarded code, and what it does as the lines do.
use Rattle.std.specs.Prelude.{◌≡◌, ℕ, ◌==◌, ◌<◌, ◌≤◌, pos, if◌then◌else◌, List, [], ◌∷◌, length, map, Option, Some, None}
use Rattle.std.specs.List.{slice_index_or}
use Rattle.code_forms.specs.declared.guard.GuardExpr.{GuardExpr}
use Rattle.code_forms.specs.declared.guard.GuardLine.{GuardLine}
use Rattle.code_forms.specs.declared.guard.ArrayShape.{ArrayShape}
use Rattle.code_forms.specs.declared.guard.GuardCode.{GuardCode}
use Rattle.code_forms.specs.declared.flat.FlatCode.{FlatCode}
use Rattle.ssa_flatten.specs.declared.fault.FlatFault.{FlatFault}
use Rattle.ssa_flatten.specs.declared.fault.FlatFault.TheVariants as fault
use Rattle.code_forms.specs.GuardValid.{guard_count}
use Rattle.code_forms.specs.declared.flat.Operand.{Operand}
use Rattle.code_forms.specs.declared.flat.Operand.TheVariants as operand
use Rattle.code_forms.specs.declared.flat.Instr.{Instr}
use Rattle.code_forms.specs.declared.flat.Instr.TheVariants as instr
use Rattle.code_forms.specs.declared.flat.FlatArray.{FlatArray}
use Rattle.mp5_words.specs.Domain.{Domain}
use Rattle.mp5_words.specs.Copies.{Copy}
use Rattle.code_forms.specs.GuardMeaning.{index_at, indexes_of, Guarded, guard_lines, guard_start}
use Rattle.code_forms.specs.FlatMeaning.{operand_value, flat_values, index_operand}
use Rattle.code_forms.specs.SameIndexes.{same_of}
use Rattle.ssa_flatten.specs.Flattening.{Sofar, flat_start, flat_lines, flat_instrs}

-- the code behind all lines
abbrev pub flat_end : ℕ → List ArrayShape → List GuardLine → Sofar
flat_end fields shapes lines = flat_lines fields shapes lines (flat_start fields shapes)

-- the guards under which an array is touched; none where it isn't
abbrev pub under_of : {X : Type 0} → Option (Copy X) → List X
under_of None = []
under_of (Some c) = c.under

-- the number is that of the least array with the same index; without an index it is the array's own
abbrev pub IsLeast : List ArrayShape → ℕ → ℕ → Option GuardExpr → Type 0
IsLeast shapes a n None = n ≡ a
IsLeast shapes a n (Some index) = (n ≤ a) × (index_at shapes n ≡ Some index) × ((b : ℕ) → b < n → index_at shapes b ≡ Some index → ⊥)

-- the arrays of the lines' flat code
pub record AreFlat (fields : ℕ) (shapes : List ArrayShape) (lines : List GuardLine) (arrays : List FlatArray) : Type 0 where
  pub lengths : map (λ (f : FlatArray). f.length) arrays ≡ map (λ (s : ArrayShape). s.length) shapes
  pub starts : map (λ (f : FlatArray). f.start) arrays ≡ map (λ (s : ArrayShape). s.start) shapes
  pub touched : map (λ (f : FlatArray). f.touched) arrays ≡ map under_of (flat_end fields shapes lines).copies
  pub copies : map (λ (f : FlatArray). f.copies) arrays ≡ (flat_end fields shapes lines).later
  pub sames : (a : ℕ) → a < length shapes → IsLeast shapes a (same_of arrays a) (index_at shapes a)

-- what an array's Store writes
abbrev pub store_operand : List Instr → ℕ → Operand
store_operand [] array = operand.Number (pos 0)
store_operand (instr.Store a x ∷ instrs) array = if a == array then x else store_operand instrs array
store_operand (i ∷ instrs) array = store_operand instrs array

-- where operands have such values, the last ones are the lines' fields; each array is touched under the lines' guards;
-- and a touched array has the lines' index, and its Store writes their latest copy
pub record EndsAs (V : Type 0) (value : Operand → V) (arrays : List FlatArray) (instrs : List Instr) (last : List Operand) (g : Guarded V) : Type 0 where
  pub fields : map value last ≡ g.fields
  pub touched : map (λ (f : FlatArray). map value f.touched) arrays ≡ map under_of g.copies
  pub index : (a : ℕ) (c : Copy V) → slice_index_or g.copies a None ≡ Some c → value (index_operand instrs a) ≡ c.index
  pub stored : (a : ℕ) (c : Copy V) → slice_index_or g.copies a None ≡ Some c → value (store_operand instrs a) ≡ c.latest

-- on every header the flat code ends as the lines do
abbrev pub MeansLines : (V : Type 0) → Domain V → ℕ → List ArrayShape → List GuardLine → List FlatArray → List Instr → List Operand → Type 0
MeansLines V d fields shapes lines arrays instrs last =
    (header : List V) → length header ≡ fields
    → EndsAs V (operand_value V d (flat_values V d fields arrays instrs header)) arrays instrs last
    (guard_lines V d (indexes_of V d.ops shapes) lines (guard_start V d (length shapes) header))

-- the same of guarded code and flat code
abbrev pub Means : (V : Type 0) → Domain V → GuardCode → FlatCode → Type 0
Means V d g c = MeansLines V d g.fields g.arrays g.lines c.arrays c.instrs c.last

-- the fault tells of more than 1,024 instructions
abbrev pub IsTooLarge : GuardCode → FlatFault → Type 0
IsTooLarge g f = (1024 < guard_count g.arrays g.lines) × (f ≡ fault.TooLarge (guard_count g.arrays g.lines))

-- the instructions of guarded code
abbrev pub instrs_for : GuardCode → List Instr
instrs_for g = flat_instrs g.fields g.arrays g.lines

-- the last value of each field, of guarded code
abbrev pub last_for : GuardCode → List Operand
last_for g = (flat_end g.fields g.arrays g.lines).fields

-- the arrays of guarded code
abbrev pub AreArraysFor : GuardCode → List FlatArray → Type 0
AreArraysFor g arrays = AreFlat g.fields g.arrays g.lines arrays

-- how many instructions guarded code makes
abbrev pub count_for : GuardCode → ℕ
count_for g = guard_count g.arrays g.lines
