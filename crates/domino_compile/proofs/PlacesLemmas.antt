-- A header has its places on flat code as on the source.
use Rattle.std.proofs.Common.{◌≡◌, ℕ, ℤ, ◌||◌, List, [], ◌∷◌, length, map, Option, None, Some, refl, sym, ap, ◌∙◌}
use Rattle.std.specs.List.{list_any}
use Rattle.std.proofs.lemmas.List.{length-map}
use Rattle.mp5_words.specs.Domain.{Mark, mark, marks}
use Rattle.mp5_words.specs.Copies.{Copy}
use Rattle.domino_tree.specs.declared.program.Program.{Program}
use Rattle.domino_check.specs.SourceGroups.{cells_of}
use Rattle.domino_check.specs.Place.{header_marks, marked_copy, is_open_at}
use Rattle.code_forms.specs.declared.guard.GuardCode.{GuardCode}
use Rattle.code_forms.specs.declared.flat.FlatCode.{FlatCode}
use Rattle.code_forms.specs.declared.flat.Operand.{Operand}
use Rattle.code_forms.specs.declared.flat.Operand.TheVariants as operand
use Rattle.code_forms.specs.FlatMeaning.{operand_value, flat_values, flat_length}
use Rattle.ssa_flatten.specs.Flattened.{under_of}
use Rattle.ssa_flatten.proofs.FlatLines.{stood}
use Rattle.index_resolve.specs.HeaderRun.{operand_mark}
use Rattle.domino_compile.specs.GroupsCode.{IsCodeOf}
use Rattle.domino_compile.specs.PlacesCode.{code_marks, is_reserved}
use Rattle.domino_compile.proofs.GroupsStand.{known, guards_are, lengths_are, copy_stands}

any_stands : (value : Operand → Mark) (xs : List Operand) → list_any (λ (m : Mark). m.is_open) (map value xs) ≡ list_any (λ (x : Operand). (value x).is_open) xs
any_stands value [] = refl
any_stands value (x ∷ xs) = ap (λ b. (value x).is_open || b) (any_stands value xs)

open_stands : (value : Operand → Mark) (c : Option (Copy Operand)) → list_any (λ (x : Operand). (value x).is_open) (under_of c) ≡ is_open_at (stood value c)
open_stands value None = refl
open_stands value (Some c) = sym (any_stands value c.under)

module _ (p : Program) (g : GuardCode) (f : FlatCode) (is : IsCodeOf p g f) (header : List ℤ) (long : length header ≡ length p.packet.fields) where
  pub marks_long : length (header_marks header) ≡ length p.packet.fields
  marks_long = length-map header (mark []) ∙ long

  -- the mark of an operand
  abbrev mark_of : Operand → Mark
  mark_of x = operand_mark (code_marks f header) x

  -- it is the operand's value, over marks
  mark_is : (x : Operand) → mark_of x ≡ operand_value Mark (marks (flat_length f.arrays)) (code_marks f header) x
  mark_is (operand.Slot k) = refl
  mark_is (operand.Number n) = refl

  -- what is known of an array in operands stands for what the header tells of it
  pub marked_stands : (a : ℕ) → stood mark_of (known p g f is a) ≡ marked_copy p header a
  marked_stands a =
      (λ i. stood (λ x. mark_is x i) (known p g f is a))
      ∙ (λ i. stood (operand_value Mark (marks (lengths_are p g f is i)) (flat_values Mark (marks (lengths_are p g f is i)) f.fields f.arrays f.instrs (header_marks header))) (known p g f is a))
      ∙ copy_stands p g f is Mark (marks (cells_of p)) (header_marks header) marks_long a

  -- an array is reserved where a site that touches it is open
  pub reserved_is : (a : ℕ) → is_reserved f header a ≡ is_open_at (marked_copy p header a)
  reserved_is a =
      ap (list_any (λ (x : Operand). (mark_of x).is_open)) (guards_are p g f is a)
      ∙ open_stands mark_of (known p g f is a)
      ∙ ap is_open_at (marked_stands a)
