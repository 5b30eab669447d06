-- The code so far as the code keeps it: what definitions know beside it is left out.
use Rattle.std.specs.Prelude.{◌≡◌, ◌≤◌, ◌<◌, ◌+◌, length, flat_map, ℕ, suc, List, [], ◌∷◌, ◌++◌, map, slice_set, Option, Some, None}
use Rattle.std.specs.List.{slice_index_or}
use Rattle.code_forms.specs.declared.guard.ArrayShape.{ArrayShape}
use Rattle.code_forms.specs.declared.guard.GuardExpr.{GuardExpr}
use Rattle.code_forms.specs.declared.flat.Operand.TheVariants as operand
use Rattle.code_forms.specs.declared.flat.Instr.TheVariants as instr
use Rattle.code_forms.specs.GuardMeaning.{index_at}
use Rattle.ssa_flatten.specs.declared.sofar.Touches.{Touches}
use Rattle.code_forms.specs.declared.flat.Operand.{Operand}
use Rattle.code_forms.specs.declared.flat.Instr.{Instr}
use Rattle.code_forms.specs.FlatMeaning.{Step}
use Rattle.code_forms.specs.GuardValid.{arrays_in}
use Rattle.ssa_flatten.specs.declared.output.Output.{Output}
use Rattle.ssa_flatten.specs.declared.sofar.Sofar.{Sofar as Held}
use Rattle.ssa_flatten.specs.Flattening.{Sofar, Code, Codes, flat, in_turn, flat_index, latest_operand}
use Rattle.ssa_flatten.specs.Counting.{unloaded}
use Rattle.ssa_flatten.specs.Flattened.{under_of, IsLeast}
use Rattle.code_forms.specs.SameIndexes.{same_of}
use Rattle.code_forms.specs.declared.flat.FlatArray.{FlatArray}

-- the lists of the code so far
pub record View : Type 0 where
  pub instrs : List Instr
  pub next : ℕ
  pub fields : List Operand
  pub copies : List (Option Operand)
  pub guards : List Operand
  pub touched : List (List Operand)
  pub later : List (List ℕ)

-- the lists that the code holds
abbrev pub held : Held → View
held s = record { instrs = s.out.instrs.items; next = s.out.next; fields = s.fields.items; copies = s.copies.items; guards = s.guards.items; touched = map (λ (f : Touches). f.touched) s.arrays.items; later = map (λ (f : Touches). f.copies) s.arrays.items }

-- the lists of the definition
abbrev pub view : Sofar → View
view s = record { instrs = map (λ (s : Step). s.instr) s.steps; next = s.next; fields = s.fields; copies = map latest_operand s.copies; guards = s.guards; touched = map under_of s.copies; later = s.later }

-- a loaded copy's operand is another now
abbrev pub renewed : Operand → Option Operand → Option Operand
renewed x None = None
renewed x (Some y) = Some x

-- the instructions of an array's index
abbrev pub index_code : List ArrayShape → ℕ → View → Code
index_code shapes a h = flat_index (index_at shapes a) (record { fields = h.fields; copies = h.copies }) h.next

-- code comes behind
abbrev pub with_code : Code → View → View
with_code code h = record { instrs = h.instrs ++ code.instrs; next = code.next; fields = h.fields; copies = h.copies; guards = h.guards; touched = h.touched; later = h.later }

-- an array is loaded: its index, its Index and its Load
abbrev pub load_view : List ArrayShape → ℕ → View → View
load_view shapes a h =
    let code : Code = index_code shapes a h in
    record {
      instrs = (h.instrs ++ code.instrs) ++ (instr.Index a code.result ∷ instr.Load a ∷ []);
      next = suc (suc code.next);
      fields = h.fields;
      copies = slice_set h.copies a (Some (operand.Slot (suc code.next)));
      guards = h.guards;
      touched = h.touched;
      later = h.later;
    }

-- an array is touched under one guard more
abbrev pub touched_view : Operand → ℕ → View → View
touched_view on a h = record {
  instrs = h.instrs;
  next = h.next;
  fields = h.fields;
  copies = h.copies;
  guards = h.guards;
  touched = slice_set h.touched a (slice_index_or h.touched a [] ++ on ∷ []);
  later = h.later;
}

-- no array
abbrev pub no_array : Touches
no_array = record { touched = []; copies = [] }

-- an array is touched under one guard more
abbrev pub with_guard : Touches → Operand → Touches
with_guard f on = record { touched = f.touched ++ on ∷ []; copies = f.copies }

-- an array has one later copy more
abbrev pub with_copy : Touches → ℕ → Touches
with_copy f number = record { touched = f.touched; copies = f.copies ++ number ∷ [] }

-- touching arrays keeps how many lists there are and what is left to load, and slots go up
pub record Keeps (shapes : List ArrayShape) (old new : Held) : Type 0 where
  pub room : new.out.next + unloaded shapes new.copies.items ≡ old.out.next + unloaded shapes old.copies.items
  pub copies : length new.copies.items ≡ length old.copies.items
  pub arrays : length new.arrays.items ≡ length old.arrays.items
  pub grows : old.out.next ≤ new.out.next

-- the guards of each array, and the numbers of its later copies
abbrev pub touched_lists : List Touches → List (List Operand)
touched_lists touches = map (λ (t : Touches). t.touched) touches

abbrev pub copy_lists : List Touches → List (List ℕ)
copy_lists touches = map (λ (t : Touches). t.copies) touches

-- the arrays with these shapes, of which this is known
pub record AreArrays (shapes : List ArrayShape) (touches : List Touches) (arrays : List FlatArray) : Type 0 where
  pub lengths : map (λ (f : FlatArray). f.length) arrays ≡ map (λ (s : ArrayShape). s.length) shapes
  pub starts : map (λ (f : FlatArray). f.start) arrays ≡ map (λ (s : ArrayShape). s.start) shapes
  pub touched : map (λ (f : FlatArray). f.touched) arrays ≡ touched_lists touches
  pub copies : map (λ (f : FlatArray). f.copies) arrays ≡ copy_lists touches
  pub sames : (a : ℕ) → a < length shapes → IsLeast shapes a (same_of arrays a) (index_at shapes a)

-- the Store of an array, where it is loaded
abbrev pub store_of : ℕ → Option Operand → List Instr
store_of a None = []
store_of a (Some x) = instr.Store a x ∷ []

-- the Stores of the arrays from a number on
abbrev pub stores_of : ℕ → List (Option Operand) → List Instr
stores_of a [] = []
stores_of a (c ∷ copies) = store_of a c ++ stores_of (suc a) copies

-- an array of this shape, of which this is known
abbrev pub with_shape : ArrayShape → ℕ → Touches → FlatArray
with_shape shape same t = record { length = shape.length; start = shape.start; same = same; touched = t.touched; copies = t.copies }

-- whatever code is held, it is held after this step of it
abbrev pub Does : Held → Held → (Sofar → Sofar) → Type 0
Does old new step = (s : Sofar) → held old ≡ view s → held new ≡ view (step s)

-- the instructions of an expression over these operands, from a slot on
abbrev pub code_at : List Operand → List (Option Operand) → GuardExpr → ℕ → Code
code_at fields copies expr next = flat expr (record { fields = fields; copies = copies }) next

-- the instructions of arguments over these operands, from a slot on
abbrev pub codes_at : List Operand → List (Option Operand) → List GuardExpr → ℕ → Codes
codes_at fields copies args next = in_turn (map flat args) (record { fields = fields; copies = copies }) next

-- the code so far has room for what is left to load, and for so many instructions more
abbrev pub HasRoom : List ArrayShape → Held → ℕ → Type 0
HasRoom shapes h more = h.out.next + unloaded shapes h.copies.items + more ≤ 1990

-- the loaded copy of an array is another one
abbrev pub renews : List (Option Operand) → ℕ → Operand → List (Option Operand)
renews copies a x = slice_set copies a (renewed x (slice_index_or copies a None))

-- an array has one later copy more
abbrev pub adds_copy : List Touches → ℕ → ℕ → List Touches
adds_copy arrays a number = slice_set arrays a (with_copy (slice_index_or arrays a no_array) number)

-- an array is touched under one guard more
abbrev pub adds_guard : List Touches → ℕ → Operand → List Touches
adds_guard arrays a on = slice_set arrays a (with_guard (slice_index_or arrays a no_array) on)

-- these instructions came behind
abbrev pub HasBehind : Output → Output → List Instr → Type 0
HasBehind old new instrs = new.instrs.items ≡ old.instrs.items ++ instrs

-- the instructions of an array's index come behind
abbrev pub adds_index : List ArrayShape → ℕ → View → View
adds_index shapes a h = with_code (index_code shapes a h) h

-- the arrays in expressions, in text order
abbrev pub arrays_in_all : List GuardExpr → List ℕ
arrays_in_all args = flat_map (λ (l : List ℕ). l) (map arrays_in args)
