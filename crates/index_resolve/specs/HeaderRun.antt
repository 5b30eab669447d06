-- What a header alone tells of flat code: the marks of its slots, and its places at groups of arrays.
use Rattle.std.specs.Prelude.{◌≡◌, ℕ, ℤ, Bool, if◌then◌else◌, List, [], map, slice_index, Option, Some, None}
use Rattle.std.specs.List.{list_any}
use Rattle.mp5_words.specs.Domain.{Mark, marks, mark, mark_ops}
use Rattle.mp5_words.specs.Copies.{at}
use Rattle.mp5_words.specs.Cells.{natural}
use Rattle.code_forms.specs.declared.flat.FlatArray.{FlatArray}
use Rattle.code_forms.specs.declared.flat.Instr.{Instr}
use Rattle.code_forms.specs.declared.flat.Operand.{Operand}
use Rattle.code_forms.specs.declared.flat.Operand.TheVariants as operand
use Rattle.code_forms.specs.FlatMeaning.{flat_values, flat_length, index_slot}
use Rattle.code_forms.specs.SameIndexes.{same_of}
use Rattle.code_forms.specs.Staged.{Member, guards_of}
use Rattle.index_resolve.specs.Clean.{IsClean}

-- the marks of all slots on a header
abbrev pub code_marks : ℕ → List FlatArray → List Instr → List ℤ → List Mark
code_marks fields arrays instrs header = flat_values Mark (marks (flat_length arrays)) fields arrays instrs (map (mark []) header)

-- the mark of a slot; that of 0 past them all
abbrev pub mark_at : List Mark → ℕ → Mark
mark_at env slot = at Mark mark_ops env slot

-- the mark of an operand
abbrev pub operand_mark : List Mark → Operand → Mark
operand_mark env (operand.Slot k) = mark_at env k
operand_mark env (operand.Number n) = mark [] n

-- an array is reserved where some guard under which it is touched is open
abbrev pub is_reserved : List FlatArray → List Mark → ℕ → Bool
is_reserved arrays env a = list_any (λ x. (operand_mark env x).is_open) (guards_of arrays a)

-- the unit of these arrays: for a sharded group the word of the Index of its first array
abbrev pub unit_on : ℕ → List Instr → List Mark → Bool → List ℕ → ℕ
unit_on fields instrs env sharded group = if sharded then natural (mark_at env (index_slot instrs fields (slice_index group 0))).word else 0

-- the place at a group with these arrays: its unit, where some array of it is reserved
abbrev pub place_on_marks : ℕ → List FlatArray → List Instr → List Mark → Bool → List ℕ → Option ℕ
place_on_marks fields arrays instrs env sharded group = if list_any (is_reserved arrays env) group then Some (unit_on fields instrs env sharded group) else None

-- the place of a header at a group with these arrays
abbrev pub flat_place : ℕ → List FlatArray → List Instr → List ℤ → Bool → List ℕ → Option ℕ
flat_place fields arrays instrs header sharded group = place_on_marks fields arrays instrs (code_marks fields arrays instrs header) sharded group

-- a group can be sharded: the Index of each of its arrays is clean, and all have one `same` and one length
pub record CanShard (fields : ℕ) (arrays : List FlatArray) (instrs : List Instr) (group : List ℕ) : Type 0 where
  pub clean : (a : ℕ) → Member a group → IsClean fields arrays instrs (index_slot instrs fields a)
  pub same : (a b : ℕ) → Member a group → Member b group → same_of arrays a ≡ same_of arrays b
  pub even : (a b : ℕ) → Member a group → Member b group → flat_length arrays a ≡ flat_length arrays b
