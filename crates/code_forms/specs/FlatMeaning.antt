-- The value of each instruction of flat code, one after another, over values of any kind.
use Rattle.std.specs.Prelude.{ℕ, suc, ◌==◌, pos, Bool, false, if◌then◌else◌, List, [], ◌∷◌, ◌++◌, map, Option, Some, None}
use Rattle.std.specs.List.{list_any, slice_index_or}
use Rattle.code_forms.specs.declared.flat.Operand.{Operand}
use Rattle.code_forms.specs.declared.flat.Operand.TheVariants as operand
use Rattle.code_forms.specs.declared.flat.Instr.{Instr}
use Rattle.code_forms.specs.declared.flat.Instr.TheVariants as instr
use Rattle.code_forms.specs.declared.flat.FlatArray.{FlatArray}
use Rattle.mp5_words.specs.Domain.{Domain}
use Rattle.mp5_words.specs.Copies.{at}

-- an instruction, and the array whose later copy it makes, if any
pub record Step : Type 0 where
  pub instr : Instr
  pub copy : Option ℕ

abbrev pub plain_step : Instr → Step
plain_step i = record { instr = i; copy = None }

-- the slot of each array's first Index
abbrev pub Slots : Type 0
Slots = ℕ → ℕ

module _ (V : Type 0) (d : Domain V) where
  -- the value of an operand
  abbrev pub operand_value : List V → Operand → V
  operand_value env (operand.Slot k) = at V d.ops env k
  operand_value env (operand.Number n) = d.ops.number n

  -- the value that an instruction writes; what stands in a Store's slot is never used
  abbrev pub instr_value : Slots → List V → Instr → V
  instr_value slots env (instr.One op a) = d.ops.one op (operand_value env a)
  instr_value slots env (instr.Two op a b) = d.ops.two op (operand_value env a) (operand_value env b)
  instr_value slots env (instr.Pick c a b) = d.ops.pick (operand_value env c) (operand_value env a) (operand_value env b)
  instr_value slots env (instr.Hash kind a b c) = d.ops.hash kind (operand_value env a) (operand_value env b) (operand_value env c)
  instr_value slots env (instr.Move a) = operand_value env a
  instr_value slots env (instr.Yes guard c) = d.yes (operand_value env guard) (operand_value env c)
  instr_value slots env (instr.No guard c) = d.no (operand_value env guard) (operand_value env c)
  instr_value slots env (instr.Index array a) = d.index array (operand_value env a)
  instr_value slots env (instr.Load array) = d.load array (at V d.ops env (slots array))
  instr_value slots env (instr.Store array a) = d.cover array (operand_value env a)

  -- what the copy counts as
  abbrev pub covered : Option ℕ → V → V
  covered None v = v
  covered (Some a) v = d.cover a v

  abbrev pub step_value : Slots → List V → Step → V
  step_value slots env s = covered s.copy (instr_value slots env s.instr)

  -- the values of all slots, where these steps come behind such values
  abbrev pub run_from : Slots → List Step → List V → List V
  run_from slots [] env = env
  run_from slots (s ∷ steps) env = run_from slots steps (env ++ step_value slots env s ∷ [])

-- the slot of the first Index of the array
abbrev pub index_slot : List Instr → ℕ → ℕ → ℕ
index_slot [] at array = at
index_slot (i ∷ instrs) at array = if is_index i array then at else index_slot instrs (suc at) array where
  is_index : Instr → ℕ → Bool
  is_index (instr.Index a x) array = a == array
  is_index (instr.One op a) array = false
  is_index (instr.Two op a b) array = false
  is_index (instr.Pick c a b) array = false
  is_index (instr.Hash kind a b c) array = false
  is_index (instr.Move a) array = false
  is_index (instr.Yes guard c) array = false
  is_index (instr.No guard c) array = false
  is_index (instr.Load a) array = false
  is_index (instr.Store a x) array = false

-- what the first Index of the array reduces
abbrev pub index_operand : List Instr → ℕ → Operand
index_operand [] array = operand.Number (pos 0)
index_operand (instr.Index a x ∷ instrs) array = if a == array then x else index_operand instrs array
index_operand (i ∷ instrs) array = index_operand instrs array

-- the array in whose list a number is
abbrev pub copy_in : List (List ℕ) → ℕ → ℕ → Option ℕ
copy_in [] a k = None
copy_in (l ∷ later) a k = if list_any (λ n. k == n) l then Some a else copy_in later (suc a) k

-- the steps of instructions, from such a number on, where these are the numbers of each array's later copies
abbrev pub steps_in : List (List ℕ) → ℕ → List Instr → List Step
steps_in later k [] = []
steps_in later k (i ∷ instrs) = record { instr = i; copy = copy_in later 0 k } ∷ steps_in later (suc k) instrs

abbrev pub steps_of : List FlatArray → List Instr → List Step
steps_of arrays instrs = steps_in (map (λ (f : FlatArray). f.copies) arrays) 0 instrs

-- how many cells an array has; 1 past them all
abbrev pub flat_length : List FlatArray → ℕ → ℕ
flat_length arrays a = slice_index_or (map (λ (f : FlatArray). f.length) arrays) a 1

-- the values of all slots of the code on a header
abbrev pub flat_values : (V : Type 0) → Domain V → ℕ → List FlatArray → List Instr → List V → List V
flat_values V d fields arrays instrs header = run_from V d (index_slot instrs fields) (steps_of arrays instrs) header
