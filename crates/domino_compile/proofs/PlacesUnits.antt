-- The Index of an array holds, on a header, the place of the array on the source; in a sharded group all arrays have one.
use Rattle.std.proofs.Common.{◌≡◌, ℕ, ℤ, List, length, Some, sym, ap, ◌∙◌}
use Rattle.mp5_words.specs.Domain.{Mark, marks, mark_ops}
use Rattle.mp5_words.specs.Cells.{natural}
use Rattle.mp5_words.specs.Copies.{Copy, at}
use Rattle.domino_tree.specs.declared.program.Program.{Program}
use Rattle.domino_check.specs.SourceGroups.{cells_of}
use Rattle.domino_check.specs.Place.{header_marks, marked_copy, marked_place}
use Rattle.code_forms.specs.declared.guard.GuardCode.{GuardCode}
use Rattle.code_forms.specs.declared.flat.FlatCode.{FlatCode}
use Rattle.code_forms.specs.declared.flat.Operand.{Operand}
use Rattle.code_forms.specs.FlatMeaning.{flat_values, index_slot}
use Rattle.ssa_flatten.proofs.FlatLines.{stood}
use Rattle.domino_compile.specs.GroupsCode.{IsCodeOf}
use Rattle.domino_compile.specs.PlacesCode.{code_marks}
use Rattle.domino_compile.proofs.GroupsStand.{known, lengths_are, copy_stands, value}
use Rattle.domino_compile.proofs.GroupsSteps.{index_value_is}
use Rattle.domino_compile.proofs.PlacesLemmas.{marks_long}

module _ (p : Program) (g : GuardCode) (f : FlatCode) (is : IsCodeOf p g f) (header : List ℤ) (long : length header ≡ length p.packet.fields) where
  -- the place that a touched array's Index holds is the array's
  pub index_place : (a : ℕ) (k : Copy Operand) → known p g f is a ≡ Some k → natural (at Mark mark_ops (code_marks f header) (index_slot f.instrs f.fields a)).word ≡ marked_place (cells_of p a) (marked_copy p header a)
  index_place a k e =
      (λ i. natural (at Mark mark_ops (flat_values Mark (marks (lengths_are p g f is i)) f.fields f.arrays f.instrs (header_marks header)) (index_slot f.instrs f.fields a)).word)
      ∙ ap (λ (m : Mark). natural m.word) (index_value_is p g f is Mark (marks (cells_of p)) (header_marks header) (marks_long p g f is header long) a k e)
      ∙ ap (marked_place (cells_of p a)) (sym (ap (stood (value p g f is Mark (marks (cells_of p)) (header_marks header) (marks_long p g f is header long))) e)
      ∙ copy_stands p g f is Mark (marks (cells_of p)) (header_marks header) (marks_long p g f is header long) a)
