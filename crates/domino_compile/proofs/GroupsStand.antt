-- What flat code knows of each array, in operands, stands for what the walk over the source knows of it.
use Rattle.std.proofs.Common.{◌≡◌, ℕ, List, [], length, map, get_or, Option, None, sym, ap, ◌∙◌}
use Rattle.std.proofs.Math.ListN.{get_or-map}
use Rattle.mp5_words.specs.Domain.{Domain}
use Rattle.mp5_words.specs.Copies.{Copy}
use Rattle.domino_tree.specs.declared.program.Program.{Program}
use Rattle.domino_check.specs.SourceWalk.{walked_program}
use Rattle.domino_check.specs.SourceGroups.{cells_of}
use Rattle.code_forms.specs.declared.guard.GuardCode.{GuardCode}
use Rattle.code_forms.specs.declared.flat.FlatCode.{FlatCode}
use Rattle.code_forms.specs.declared.flat.Operand.{Operand}
use Rattle.code_forms.specs.FlatMeaning.{operand_value, flat_values, flat_length}
use Rattle.code_forms.specs.GuardMeaning.{length_at}
use Rattle.flat_graph.specs.Nodes.{guards_of}
use Rattle.branch_removal.specs.Followed.{lines_from}
use Rattle.branch_removal.proofs.FollowLemmas.{lines_follow}
use Rattle.branch_removal.proofs.ShapeLemmas.{length_same}
use Rattle.ssa_flatten.specs.Flattening.{Sofar}
use Rattle.ssa_flatten.specs.Flattened.{flat_end, under_of}
use Rattle.ssa_flatten.proofs.FlatLines.{stood}
use Rattle.ssa_flatten.proofs.Meaning as meaning
use Rattle.domino_compile.specs.GroupsCode.{IsCodeOf}

module _ (p : Program) (g : GuardCode) (f : FlatCode) (is : IsCodeOf p g f) where
  abbrev pub done : Sofar
  done = flat_end g.fields g.arrays g.lines

  -- what is known of an array in operands
  abbrev pub known : ℕ → Option (Copy Operand)
  known a = get_or done.copies a None

  pub guards_are : (a : ℕ) → guards_of f.arrays a ≡ under_of (known a)
  guards_are a = ap (λ l. get_or l a []) is.flat_arrays.touched ∙ get_or-map under_of done.copies a None

  -- arrays have as many cells as are declared
  pub lengths_are : flat_length f.arrays ≡ cells_of p
  lengths_are = λ i a. (ap (λ l. get_or l a 1) is.flat_arrays.lengths ∙ ap (λ s. length_at s a) is.arrays ∙ length_same p a) i

  module _ (V : Type 0) (d : Domain V) (header : List V) (long : length header ≡ length p.packet.fields) where
    -- the values of all slots
    abbrev pub env : List V
    env = flat_values V d f.fields f.arrays f.instrs header

    abbrev pub value : Operand → V
    value = operand_value V d env

    within : length header ≡ g.fields
    within = long ∙ sym is.fields

    pub copies_stand : map (stood value) done.copies ≡ (walked_program V d p header).copies
    copies_stand =
        (λ i. map (stood (operand_value V d (flat_values V d (is.width i) f.arrays (is.instrs i) header))) done.copies)
        ∙ (meaning.stands g.fields g.arrays g.lines g.valid f.arrays is.flat_arrays V d header within).copies
        ∙ (λ i. (lines_from V d (is.arrays i) (is.lines i) header).copies)
        ∙ (lines_follow p is.passes.names V d header).copies

    pub copy_stands : (a : ℕ) → stood value (known a) ≡ get_or (walked_program V d p header).copies a None
    copy_stands a = sym (get_or-map (stood value) done.copies a None) ∙ ap (λ l. get_or l a None) copies_stand
