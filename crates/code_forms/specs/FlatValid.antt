-- When flat code is valid: limits, slots written before their use, guards where guards are used, each touched array
-- with one Index, one Load and one Store in this order, and later copies between its Load and its Store.
use Rattle.std.specs.Prelude.{ℕ, suc, ◌==◌, Bool, true, false, ◌&&◌, if◌then◌else◌, nat_lt, nat_le, List, [], ◌∷◌, ◌++◌, length, map, flat_map, take, sum, pos, replicate}
use Rattle.std.specs.List.{list_all, slice_index_or}
use Rattle.std.specs.Ordering.{int_eq}
use Rattle.mp5_words.specs.declared.hashing.HashKind.{HashKind}
use Rattle.mp5_words.specs.declared.hashing.HashKind.TheVariants as kind
use Rattle.code_forms.specs.declared.flat.Operand.{Operand}
use Rattle.code_forms.specs.declared.flat.Operand.TheVariants as operand
use Rattle.code_forms.specs.declared.flat.Instr.{Instr}
use Rattle.code_forms.specs.declared.flat.Instr.TheVariants as instr
use Rattle.code_forms.specs.declared.flat.FlatArray.{FlatArray}

-- ---- slots

-- for each slot so far whether it holds a word, and whether it is a guard
pub record Written : Type 0 where
  pub words : List Bool
  pub guards : List Bool

-- the mark at a slot; none past them all
abbrev pub at : List Bool → ℕ → Bool
at marks k = slice_index_or marks k false

-- the slots of the header
abbrev pub header_slots : ℕ → Written
header_slots fields = record { words = replicate fields true; guards = replicate fields false }

-- the operand is a number, or a slot that holds a word
abbrev pub is_written : Written → Operand → Bool
is_written w (operand.Slot k) = at w.words k
is_written w (operand.Number n) = true

-- the operand is 1, or the slot of a guard
abbrev pub is_guard : Written → Operand → Bool
is_guard w (operand.Slot k) = at w.guards k
is_guard w (operand.Number n) = int_eq n (pos 1)

-- the operand is the number 0
abbrev pub is_zero : Operand → Bool
is_zero (operand.Slot k) = false
is_zero (operand.Number n) = int_eq n (pos 0)

-- the third operand of a hash is 0 where the hash takes two
abbrev pub third_fits : HashKind → Operand → Bool
third_fits kind.Two x = is_zero x
third_fits kind.TwoA x = is_zero x
third_fits kind.TwoB x = is_zero x
third_fits kind.Three x = true

-- an instruction uses slots that hold words, guards that are guards, and arrays that are there
abbrev pub instr_fits : ℕ → Written → Instr → Bool
instr_fits arrays w (instr.One op a) = is_written w a
instr_fits arrays w (instr.Two op a b) = is_written w a && is_written w b
instr_fits arrays w (instr.Pick c a b) = is_written w c && (is_written w a && is_written w b)
instr_fits arrays w (instr.Hash kind a b c) = third_fits kind c && (is_written w a && (is_written w b && is_written w c))
instr_fits arrays w (instr.Move a) = is_written w a
instr_fits arrays w (instr.Yes guard c) = is_guard w guard && is_written w c
instr_fits arrays w (instr.No guard c) = is_guard w guard && is_written w c
instr_fits arrays w (instr.Index array a) = nat_lt array arrays && is_written w a
instr_fits arrays w (instr.Load array) = nat_lt array arrays
instr_fits arrays w (instr.Store array a) = nat_lt array arrays && is_written w a

-- whether an instruction writes a word
abbrev pub writes : Instr → Bool
writes (instr.Store array a) = false
writes (instr.One op a) = true
writes (instr.Two op a b) = true
writes (instr.Pick c a b) = true
writes (instr.Hash kind a b c) = true
writes (instr.Move a) = true
writes (instr.Yes guard c) = true
writes (instr.No guard c) = true
writes (instr.Index array a) = true
writes (instr.Load array) = true

-- whether an instruction makes a guard
abbrev pub makes_guard : Instr → Bool
makes_guard (instr.Yes guard c) = true
makes_guard (instr.No guard c) = true
makes_guard (instr.Store array a) = false
makes_guard (instr.One op a) = false
makes_guard (instr.Two op a b) = false
makes_guard (instr.Pick c a b) = false
makes_guard (instr.Hash kind a b c) = false
makes_guard (instr.Move a) = false
makes_guard (instr.Index array a) = false
makes_guard (instr.Load array) = false

-- the slots behind an instruction
abbrev pub after : Written → Instr → Written
after w i = record { words = w.words ++ writes i ∷ []; guards = w.guards ++ makes_guard i ∷ [] }

-- the slots behind instructions
abbrev pub after_all : Written → List Instr → Written
after_all w [] = w
after_all w (i ∷ instrs) = after_all (after w i) instrs

-- instructions fit, one after another
abbrev pub instrs_fit : ℕ → Written → List Instr → Bool
instrs_fit arrays w [] = true
instrs_fit arrays w (i ∷ instrs) = instr_fits arrays w i && instrs_fit arrays (after w i) instrs

-- ---- the life of an array

-- what an instruction does to an array's cell
pub data Event : Type 0 where
  Indexes : Event
  Loads : Event
  Stores : Event

-- whether an instruction does something to an array's cell
abbrev pub event_of : ℕ → Instr → List Event
event_of array (instr.Index a x) = if a == array then Indexes ∷ [] else []
event_of array (instr.Load a) = if a == array then Loads ∷ [] else []
event_of array (instr.Store a x) = if a == array then Stores ∷ [] else []
event_of array (instr.One op a) = []
event_of array (instr.Two op a b) = []
event_of array (instr.Pick c a b) = []
event_of array (instr.Hash kind a b c) = []
event_of array (instr.Move a) = []
event_of array (instr.Yes guard c) = []
event_of array (instr.No guard c) = []

-- what the instructions do to an array's cell, in order
abbrev pub events : ℕ → List Instr → List Event
events array instrs = flat_map (event_of array) instrs

-- a touched array is indexed, loaded and stored once, in this order, and no other is at all
abbrev pub is_life : Bool → List Event → Bool
is_life true (Indexes ∷ Loads ∷ Stores ∷ []) = true
is_life true es = false
is_life false [] = true
is_life false (e ∷ es) = false

-- the array is loaded and not stored yet
abbrev pub is_loaded : List Event → Bool
is_loaded (Indexes ∷ Loads ∷ []) = true
is_loaded es = false

-- the instruction moves or picks
abbrev pub makes_copy : Instr → Bool
makes_copy (instr.Move a) = true
makes_copy (instr.Pick c a b) = true
makes_copy (instr.One op a) = false
makes_copy (instr.Two op a b) = false
makes_copy (instr.Hash kind a b c) = false
makes_copy (instr.Yes guard c) = false
makes_copy (instr.No guard c) = false
makes_copy (instr.Index array a) = false
makes_copy (instr.Load array) = false
makes_copy (instr.Store array a) = false

-- an instruction by its number; past them all one that makes no copy
abbrev pub instr_at : List Instr → ℕ → Instr
instr_at instrs k = slice_index_or instrs k (instr.Load 0)

-- the number is that of a Move or a Pick between the array's Load and its Store
abbrev pub is_copy : ℕ → List Instr → ℕ → Bool
is_copy array instrs k = makes_copy (instr_at instrs k) && is_loaded (events array (take k instrs))

-- numbers go up, from one on
abbrev pub ascends : ℕ → List ℕ → Bool
ascends next [] = true
ascends next (k ∷ numbers) = nat_le next k && ascends (suc k) numbers

-- ---- arrays

-- whether a list has an item
abbrev pub is_some : List Operand → Bool
is_some [] = false
is_some (x ∷ xs) = true

-- an array has from 1 to 65,536 cells, its life by whether it is touched, guards under which it is touched, and later
-- copies in order, none where it isn't touched
abbrev pub array_fits : List Instr → Written → ℕ → FlatArray → Bool
array_fits instrs w array f =
    nat_lt 0 f.length && (nat_le f.length 65536
    && (is_life (is_some f.touched) (events array instrs)
    && (list_all (is_guard w) f.touched
    && (list_all (is_copy array instrs) f.copies && ascends 0 f.copies))))

-- each of the arrays from a number on
abbrev pub arrays_fit : List Instr → Written → ℕ → List FlatArray → Bool
arrays_fit instrs w array [] = true
arrays_fit instrs w array (f ∷ arrays) = array_fits instrs w array f && arrays_fit instrs w (suc array) arrays

-- whether an array is touched
abbrev pub is_touched : List FlatArray → ℕ → Bool
is_touched arrays a = is_some (slice_index_or (map (λ (f : FlatArray). f.touched) arrays) a [])

-- the array that stands for all with the same index is touched and not behind; an untouched array's is itself
abbrev pub same_fits : List FlatArray → ℕ → FlatArray → Bool
same_fits arrays array f = if is_some f.touched then nat_le f.same array && is_touched arrays f.same else f.same == array

-- each of the arrays from a number on
abbrev pub sames_fit : List FlatArray → ℕ → List FlatArray → Bool
sames_fit all array [] = true
sames_fit all array (f ∷ arrays) = same_fits all array f && sames_fit all (suc array) arrays

-- ---- all of it

-- how many cells all arrays have
abbrev pub cells_in : List FlatArray → ℕ
cells_in arrays = sum (map (λ (f : FlatArray). f.length) arrays)

-- at most 32 fields, 16 arrays, 262,144 cells and 1,024 instructions
abbrev pub is_limited : ℕ → List FlatArray → List Instr → Bool
is_limited fields arrays instrs =
    nat_le fields 32 && (nat_le (length arrays) 16 && (nat_le (cells_in arrays) 262144 && nat_le (length instrs) 1024))

-- the last value of each field is a number or a slot that holds a word
abbrev pub last_fits : ℕ → Written → List Operand → Bool
last_fits fields w last = (length last == fields) && list_all (is_written w) last

-- the code is within the limits; its instructions fit one after another; so do its arrays, and the last values
abbrev pub is_flat_code : ℕ → List FlatArray → List Instr → List Operand → Bool
is_flat_code fields arrays instrs last =
    let w : Written = after_all (header_slots fields) instrs in
    is_limited fields arrays instrs
    && (instrs_fit (length arrays) (header_slots fields) instrs
    && (arrays_fit instrs w 0 arrays && (sames_fit arrays 0 arrays && last_fits fields w last)))
